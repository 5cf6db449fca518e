-- The cells of an array are listed once each, so that the words of the inputs stand in the memory as they were given.
use Rattle.std.proofs.Common.{◌≡◌, ℕ, zero, suc, ◌+◌, Bool, true, false, ◌&&◌, List, [], ◌∷◌, ◌++◌, map, flat_map, length, ℤ, pos, ◌+ℤ◌, ◌<ℤ◌, Some, None, refl, sym, ap, ◌∙◌, subst, arith}
use Rattle.std.specs.Prelude.{slice_get, slice_index}
use Rattle.std.specs.Ordering.{int_eq}
use Rattle.std.specs.List.{AllByRecursion}
use Rattle.std.proofs.lemmas.Int.{ints}
use Rattle.c_tree.specs.Values.{from_on}
use Rattle.c_tree.specs.Arrays.{Array, Memory, same_cell, all_cells, size_of, index_of, words_of, words_from, memory_of}
use Rattle.c_tree.specs.Inputs.{HaveCells}
use Rattle.cell_laws.proofs.SameCell.{same_cell_refl}
use Rattle.cell_laws.proofs.Rows.{length-all_cells}

-- a cell differs from each of a list
abbrev IsApart : List ℤ → List (List ℤ) → Type 0
IsApart d cells = AllByRecursion (λ c. same_cell d c ≡ false) cells

-- no cell stands twice in a list
abbrev pub AreApart : List (List ℤ) → Type 0
AreApart [] = Unit {0}
AreApart (d ∷ more) = IsApart d more × AreApart more

apart_both : (d : List ℤ) (xs ys : List (List ℤ)) → IsApart d xs → IsApart d ys → IsApart d (xs ++ ys)
apart_both d [] ys h k = k
apart_both d (x ∷ xs) ys h k = (h.0, apart_both d xs ys h.1 k)

all_apart : (xs ys : List (List ℤ)) → AreApart xs → AreApart ys → AllByRecursion (λ x. IsApart x ys) xs → AreApart (xs ++ ys)
all_apart [] ys h k cross = k
all_apart (x ∷ xs) ys h k cross = (apart_both x xs ys h.0 cross.0, all_apart xs ys h.1 k cross.1)

-- ---- all cells

and_false : (b c : Bool) → c ≡ false → (b && c) ≡ false
and_false true c e = e
and_false false c e = refl

row_apart : (z : ℤ) (d : List ℤ) (cells : List (List ℤ)) → IsApart d cells → IsApart (z ∷ d) (map (λ c. z ∷ c) cells)
row_apart z d [] h = tt
row_apart z d (c ∷ cells) h = (and_false (int_eq z z) (same_cell d c) h.0, row_apart z d cells h.1)

rows_apart : (z : ℤ) (cells : List (List ℤ)) → AreApart cells → AreApart (map (λ c. z ∷ c) cells)
rows_apart z [] h = tt
rows_apart z (d ∷ cells) h = (row_apart z d cells h.0, rows_apart z cells h.1)

below_differs : (z lo : ℤ) → z <ℤ lo → int_eq z lo ≡ false
below_differs z lo h = grind (arith, ints)

other_row : (z lo : ℤ) (d : List ℤ) (cells : List (List ℤ)) → z <ℤ lo → IsApart (z ∷ d) (map (λ c. lo ∷ c) cells)
other_row z lo d [] h = tt
other_row z lo d (c ∷ cells) h = (rw (below_differs z lo h), other_row z lo d cells h)

later_rows : (z lo : ℤ) (n : ℕ) (d : List ℤ) (cells : List (List ℤ)) → z <ℤ lo → IsApart (z ∷ d) (flat_map (λ v. map (λ c. v ∷ c) cells) (from_on lo n))
later_rows z lo zero d cells h = tt
later_rows z lo (suc n) d cells h =
    apart_both (z ∷ d) (map (λ c. lo ∷ c) cells) (flat_map (λ v. map (λ c. v ∷ c) cells) (from_on (lo +ℤ pos 1) n)) (other_row z lo d cells h) (later_rows z (lo +ℤ pos 1) n d cells (omega (arith, ints)))

row_and_later : (z : ℤ) (n : ℕ) (all cells : List (List ℤ)) → AllByRecursion (λ x. IsApart x (flat_map (λ v. map (λ c. v ∷ c) all) (from_on (z +ℤ pos 1) n))) (map (λ c. z ∷ c) cells)
row_and_later z n all [] = tt
row_and_later z n all (d ∷ cells) = (later_rows z (z +ℤ pos 1) n d all (omega (arith, ints)), row_and_later z n all cells)

from_apart : (z : ℤ) (n : ℕ) (cells : List (List ℤ)) → AreApart cells → AreApart (flat_map (λ v. map (λ c. v ∷ c) cells) (from_on z n))
from_apart z zero cells h = tt
from_apart z (suc n) cells h =
    all_apart (map (λ c. z ∷ c) cells) (flat_map (λ v. map (λ c. v ∷ c) cells) (from_on (z +ℤ pos 1) n)) (rows_apart z cells h) (from_apart (z +ℤ pos 1) n cells h) (row_and_later z n cells cells)

pub cells_apart : (extents : List ℤ) → AreApart (all_cells extents)
cells_apart [] = (tt, tt)
cells_apart (e ∷ es) = from_apart (pos 0) (size_of e) (all_cells es) (cells_apart es)

-- ---- by number

apart_at : (d : List ℤ) (cells : List (List ℤ)) (i : ℕ) (c : List ℤ) → IsApart d cells → slice_get cells i ≡ Some c → same_cell d c ≡ false
apart_at d [] i c h e = let f : None ≡ Some c = e in cc
apart_at d (x ∷ cells) zero c h e = let f : x ≡ c = cc in subst (λ (y : List ℤ). same_cell d y ≡ false) f h.0
apart_at d (x ∷ cells) (suc i) c h e = apart_at d cells i c h.1 e

-- the number of a cell is where it stands
pub index_is : (cells : List (List ℤ)) (i : ℕ) (c : List ℤ) → AreApart cells → slice_get cells i ≡ Some c → index_of cells c ≡ i
index_is [] i c h e = let f : None ≡ Some c = e in cc
index_is (d ∷ cells) zero c h e = let f : d ≡ c = cc in rw (f, same_cell_refl c)
index_is (d ∷ cells) (suc i) c h e = rw (apart_at d cells i c h.0 e) (ap suc (index_is cells i c h.1 e))

behind_first : (d : List ℤ) (all : List (List ℤ)) (w : ℕ) (ws : List ℕ) (cells : List (List ℤ)) → IsApart d cells →
    map (λ c. slice_index (w ∷ ws) (index_of (d ∷ all) c)) cells ≡ map (λ c. slice_index ws (index_of all c)) cells
behind_first d all w ws [] h = refl
behind_first d all w ws (c ∷ cells) h = rw h.0 (ap (λ l. slice_index ws (index_of all c) ∷ l) (behind_first d all w ws cells h.1))

words_back : (cells : List (List ℤ)) (ws : List ℕ) → AreApart cells → length ws ≡ length cells → map (λ c. slice_index ws (index_of cells c)) cells ≡ ws
words_back [] [] h e = refl
words_back [] (w ∷ ws) h e = absurd (omega (arith, e))
words_back (d ∷ cells) [] h e = absurd (omega (arith, e))
words_back (d ∷ cells) (w ∷ ws) h e =
    rw (same_cell_refl d) (ap (λ l. w ∷ l) (behind_first d cells w ws cells h.0 ∙ words_back cells ws h.1 (omega (arith, e))))

map_same : (f g : List ℤ → ℕ) → ((c : List ℤ) → f c ≡ g c) → (cells : List (List ℤ)) → map f cells ≡ map g cells
map_same f g h [] = refl
map_same f g h (c ∷ cells) = ap (λ n. n ∷ map f cells) (h c) ∙ ap (λ l. g c ∷ l) (map_same f g h cells)

all_back : (m : Memory) (k : ℕ) (arrays : List Array) (cells : List (List ℕ)) → HaveCells arrays cells →
    ((j : ℕ) (c : List ℤ) → m (k + j) c ≡ memory_of arrays cells j c) → words_from m k arrays ≡ cells
all_back m k [] [] h same = refl
all_back m k [] (ws ∷ cells) h same = absurd h
all_back m k (a ∷ arrays) [] h same = absurd h
all_back m k (a ∷ arrays) (ws ∷ cells) h same =
    let here : words_of m k a.extents ≡ ws =
    map_same (m k) (λ c. slice_index ws (index_of (all_cells a.extents) c)) (λ c. let e : k ≡ k + 0 = omega arith in ap (λ n. m n c) e ∙ same 0 c) (all_cells a.extents)
    ∙ words_back (all_cells a.extents) ws (cells_apart a.extents) (h.0.count ∙ sym (length-all_cells a.extents)) in
    let rest : words_from m (suc k) arrays ≡ cells =
    all_back m (suc k) arrays cells h.1 (λ j c. let e : suc k + j ≡ k + suc j = omega arith in ap (λ n. m n c) e ∙ same (suc j) c) in
    ap (λ l. l ∷ words_from m (suc k) arrays) here ∙ ap (λ l. ws ∷ l) rest

-- the memory of these words has these words
pub memory_has : (arrays : List Array) (cells : List (List ℕ)) → HaveCells arrays cells → words_from (memory_of arrays cells) 0 arrays ≡ cells
memory_has arrays cells h = all_back (memory_of arrays cells) 0 arrays cells h (λ j c. let e : 0 + j ≡ j = omega arith in ap (λ n. memory_of arrays cells n c) e)
