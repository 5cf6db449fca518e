-- The row-major number of a cell is its place in the list of all cells.
use Rattle.std.proofs.Common.{◌≡◌, ℕ, zero, suc, ◌+◌, ◌*◌, ◌<◌, true, false, List, [], ◌∷◌, ◌++◌, map, length, flat_map, ℤ, pos, negsuc, ◌+ℤ◌, Some, None, refl, ap, ◌∙◌, arith, length-append, option_map}
use Rattle.std.specs.Prelude.{slice_get}
use Rattle.std.proofs.lemmas.Int.{ints}
use Rattle.std.proofs.lemmas.Nat.{mul-add-lt}
use Rattle.c_tree.specs.Values.{from_on}
use Rattle.c_tree.specs.Arrays.{all_cells, cell_count, size_of, is_within}
use Rattle.cell_laws.specs.Rows.{row_major}
use Rattle.cell_laws.proofs.Within.{inside, not_inside, no_room}

length-from_on : (z : ℤ) (n : ℕ) → length (from_on z n) ≡ n
length-from_on z zero = refl
length-from_on z (suc n) = ap suc (length-from_on (z +ℤ pos 1) n)

length-map' : {A B : Type 0} (f : A → B) (xs : List A) → length (map f xs) ≡ length xs
length-map' f [] = refl
length-map' f (x ∷ xs) = ap suc (length-map' f xs)

get-map : {A B : Type 0} (f : A → B) (xs : List A) (i : ℕ) (x : A) → slice_get xs i ≡ Some x → slice_get (map f xs) i ≡ Some (f x)
get-map f [] i x e = absurd (let g : None ≡ Some x = e in cc)
get-map f (y ∷ xs) zero x e = ap (option_map f) e
get-map f (y ∷ xs) (suc i) x e = get-map f xs i x e

get_front : {A : Type 0} (xs ys : List A) (j : ℕ) → j < length xs → slice_get (xs ++ ys) j ≡ slice_get xs j
get_front [] ys j h = absurd (omega arith)
get_front (x ∷ xs) ys zero h = refl
get_front (x ∷ xs) ys (suc j) h = get_front xs ys j (omega arith)

get_behind : {A : Type 0} (xs ys : List A) (j : ℕ) → slice_get (xs ++ ys) (length xs + j) ≡ slice_get ys j
get_behind [] ys j = let e : 0 + j ≡ j = omega arith in ap (slice_get ys) e
get_behind (x ∷ xs) ys j = let e : suc (length xs) + j ≡ suc (length xs + j) = omega arith in ap (slice_get (x ∷ xs ++ ys)) e ∙ get_behind xs ys j

-- the j-th of the i-th row, where each row has n
get_row : (f : ℤ → List (List ℤ)) (n : ℕ) → ((z : ℤ) → length (f z) ≡ n) → (z : ℤ) (k i j : ℕ) → i < k → j < n → slice_get (flat_map f (from_on z k)) (i * n + j) ≡ slice_get (f (z +ℤ pos i)) j
get_row f n h z zero i j lt below = absurd (omega arith)
get_row f n h z (suc k) zero j lt below =
    let e : 0 * n + j ≡ j = omega arith in
    let g : z ≡ z +ℤ pos 0 = omega (arith, ints) in
    let inside : j < length (f z) = omega (arith, h z) in
    ap (slice_get (f z ++ flat_map f (from_on (z +ℤ pos 1) k))) e ∙ get_front (f z) _ j inside ∙ ap (λ z. slice_get (f z) j) g
get_row f n h z (suc k) (suc i) j lt below =
    let e : suc i * n + j ≡ length (f z) + (i * n + j) = omega (arith, h z) in
    let g : z +ℤ pos 1 +ℤ pos i ≡ z +ℤ pos (suc i) = omega (arith, ints) in
    ap (slice_get (f z ++ flat_map f (from_on (z +ℤ pos 1) k))) e ∙ get_behind (f z) _ (i * n + j) ∙ get_row f n h (z +ℤ pos 1) k i j (omega arith) below ∙ ap (λ z. slice_get (f z) j) g

length_rows : (f : ℤ → List (List ℤ)) (n : ℕ) → ((z : ℤ) → length (f z) ≡ n) → (z : ℤ) (k : ℕ) → length (flat_map f (from_on z k)) ≡ k * n
length_rows f n h z zero = omega arith
length_rows f n h z (suc k) = omega (arith, length-append (f z) (flat_map f (from_on (z +ℤ pos 1) k)), h z, length_rows f n h (z +ℤ pos 1) k)

pub length-all_cells : (es : List ℤ) → length (all_cells es) ≡ cell_count es
length-all_cells [] = refl
length-all_cells (e ∷ es) = length_rows (λ c. map (λ cs. c ∷ cs) (all_cells es)) (cell_count es) (λ z. length-map' (λ cs. z ∷ cs) (all_cells es) ∙ length-all_cells es) (pos 0) (size_of e)

pub row_major_below : (es cs : List ℤ) → is_within cs es ≡ true → row_major es cs < cell_count es
row_major_below [] [] h = omega arith
row_major_below [] (c ∷ cs) h = absurd (let e : false ≡ true = h in cc)
row_major_below (e ∷ es) [] h = absurd (let f : false ≡ true = h in cc)
row_major_below (pos n ∷ es) (pos i ∷ cs) h =
    let k = inside i n cs es h in
    omega (arith, mul-add-lt i (cell_count es) (row_major es cs) n k.0 (row_major_below es cs k.1))
row_major_below (negsuc n ∷ es) (pos i ∷ cs) h = absurd (no_room i n cs es h)
row_major_below (e ∷ es) (negsuc i ∷ cs) h = absurd (not_inside i e cs es h)

pub get-all_cells : (es cs : List ℤ) → is_within cs es ≡ true → slice_get (all_cells es) (row_major es cs) ≡ Some cs
get-all_cells [] [] h = refl
get-all_cells [] (c ∷ cs) h = absurd (let e : false ≡ true = h in cc)
get-all_cells (e ∷ es) [] h = absurd (let f : false ≡ true = h in cc)
get-all_cells (pos n ∷ es) (pos i ∷ cs) h =
    let k = inside i n cs es h in
    let z : pos 0 +ℤ pos i ≡ pos i = omega (arith, ints) in
    get_row (λ c. map (λ cs. c ∷ cs) (all_cells es)) (cell_count es) (λ z. length-map' (λ cs. z ∷ cs) (all_cells es) ∙ length-all_cells es) (pos 0) n i (row_major es cs) k.0 (row_major_below es cs k.1)
    ∙ get-map (λ cs. (pos 0 +ℤ pos i) ∷ cs) (all_cells es) (row_major es cs) cs (get-all_cells es cs k.1)
    ∙ ap (λ z. Some (z ∷ cs)) z
get-all_cells (negsuc n ∷ es) (pos i ∷ cs) h = absurd (no_room i n cs es h)
get-all_cells (e ∷ es) (negsuc i ∷ cs) h = absurd (not_inside i e cs es h)
