-- The sums that a text adds up are those of the laws of totals: list recursions on the one side, sums by positions and over cells on the other.
use Rattle.std.proofs.Common.{◌≡◌, ℕ, zero, suc, ◌+◌, ◌*◌, cond, not, ◌&&◌, List, [], ◌∷◌, length, refl, sym, ap, ◌∙◌, arith, ℤ, pos, nat_eq}
use Rattle.c_tree.specs.Values.{from_on}
use Rattle.c_tree.specs.Arrays.{Memory, all_cells, size_of}
use Rattle.c_tree.specs.Accesses.{Access, at, sum_below, uses}
use Rattle.c_tree.specs.Accesses.Definition.{Initial, Written}
use Rattle.c_tree.specs.Run.{Event}
use Rattle.balance_laws.specs.Totals as Sums
use Rattle.balance_laws.proofs.Sums.{sum_below_same}
use Rattle.run_laws.specs.Logs.{accesses_in, values_in}
use Rattle.instrumentation_laws.specs.RunningTotals.{read_sum, written_sum}
use Rattle.instrumentation_laws.specs.PrologueTotals.{cell_sum}
use Rattle.instrumentation_laws.proofs.CellLoops.{sum_rows, row_sum, next_is}

pub front : (f : ℕ → ℕ) (n : ℕ) → sum_below f (suc n) ≡ f 0 + sum_below (λ q. f (suc q)) n
unfolding sum_below
front f zero = omega arith
front f (suc n) = let h = front f n in omega arith

pub read_sum_is : (a : ℕ) (xs : List Event) → read_sum a xs ≡ Sums.use_sum (accesses_in xs) (values_in xs) a
unfolding Sums.use_sum sum_below
read_sum_is a [] = refl
read_sum_is a (x ∷ xs) =
    ap (λ k. cond (not x.access.writes && nat_eq x.access.array a) x.value 0 + k) (read_sum_is a xs) ∙
    sym (front (λ q. cond (not (at (accesses_in (x ∷ xs)) q).writes && nat_eq (at (accesses_in (x ∷ xs)) q).array a) (values_in (x ∷ xs) q) 0) (length (accesses_in xs)))

abbrev pub position_sum : (ℕ → ℕ) → ℕ → ℕ → List Event → ℕ
position_sum u a k xs = sum_below (λ p. cond ((at (accesses_in xs) p).writes && nat_eq (at (accesses_in xs) p).array a) (values_in xs p * u (k + p)) 0) (length (accesses_in xs))

pub written_sum_is : (u : ℕ → ℕ) (a k : ℕ) (xs : List Event) → written_sum u a k xs ≡ position_sum u a k xs
unfolding sum_below
written_sum_is u a k [] = refl
written_sum_is u a k (x ∷ xs) =
    let term : ℕ → ℕ = λ p. cond ((at (accesses_in (x ∷ xs)) p).writes && nat_eq (at (accesses_in (x ∷ xs)) p).array a) (values_in (x ∷ xs) p * u (k + p)) 0 in
    let first : cond (x.access.writes && nat_eq x.access.array a) (x.value * u k) 0 ≡ term 0 = ap (λ n. cond (x.access.writes && nat_eq x.access.array a) (x.value * u n) 0) (let e : k ≡ k + 0 = omega arith in e) in
    let rest : position_sum u a (suc k) xs ≡ sum_below (λ q. term (suc q)) (length (accesses_in xs)) =
    sum_below_same (λ p. cond ((at (accesses_in xs) p).writes && nat_eq (at (accesses_in xs) p).array a) (values_in xs p * u (suc k + p)) 0) (λ q. term (suc q)) (length (accesses_in xs))
    (λ i l. ap (λ n. cond ((at (accesses_in xs) i).writes && nat_eq (at (accesses_in xs) i).array a) (values_in xs i * u n) 0) (let e : suc k + i ≡ k + suc i = omega arith in e)) in
    ap (λ n. cond (x.access.writes && nat_eq x.access.array a) (x.value * u k) 0 + n) (written_sum_is u a (suc k) xs ∙ rest) ∙ ap (λ n. n + sum_below (λ q. term (suc q)) (length (accesses_in xs))) first ∙ sym (front term (length (accesses_in xs)))

rows_are : (g : ℤ → ℕ) (k n : ℕ) → row_sum g (from_on (pos k) n) ≡ sum_below (λ i. g (pos (k + i))) n
unfolding sum_below
rows_are g k zero = refl
rows_are g k (suc n) =
    let first : g (pos k) ≡ g (pos (k + 0)) = ap (λ i. g (pos i)) (let e : k ≡ k + 0 = omega arith in e) in
    let rest : sum_below (λ i. g (pos (suc k + i))) n ≡ sum_below (λ i. g (pos (k + suc i))) n = sum_below_same (λ i. g (pos (suc k + i))) (λ i. g (pos (k + suc i))) n (λ i l. ap (λ j. g (pos j)) (let e : suc k + i ≡ k + suc i = omega arith in e)) in
    ap (λ z. g (pos k) + row_sum g (from_on z n)) (next_is k) ∙ ap (λ m. g (pos k) + m) (rows_are g (suc k) n ∙ rest) ∙ ap (λ m. m + sum_below (λ i. g (pos (k + suc i))) n) first ∙ sym (front (λ i. g (pos (k + i))) n)

pub cells_are : (es : List ℤ) (f : List ℤ → ℕ) → cell_sum f (all_cells es) ≡ Sums.sum_cells es f
unfolding Sums.sum_cells
cells_are [] f = omega arith
cells_are (e ∷ es) f =
    sum_rows f (all_cells es) (from_on (pos 0) (size_of e)) ∙
    rows_are (λ c. cell_sum (λ cs. f (c ∷ cs)) (all_cells es)) 0 (size_of e) ∙
    sum_below_same (λ i. cell_sum (λ cs. f (pos (0 + i) ∷ cs)) (all_cells es)) (λ i. Sums.sum_cells es (λ c. f (pos i ∷ c))) (size_of e)
    (λ i l. cells_are es (λ cs. f (pos (0 + i) ∷ cs)) ∙ ap (λ j. Sums.sum_cells es (λ c. f (pos j ∷ c))) (let g : 0 + i ≡ i = omega arith in g))

pub total_is : (list : List Access) (extents : ℕ → List ℤ) (inputs : Memory) (xs : List Event) (a : ℕ) → accesses_in xs ≡ list →
    cell_sum (λ cs. inputs a cs * uses list (Initial a cs)) (all_cells (extents a)) + written_sum (λ n. uses list (Written n)) a 0 xs ≡ Sums.definition_sum list extents inputs (values_in xs) a
unfolding Sums.definition_sum
total_is list extents inputs xs a e =
    let u : ℕ → ℕ = λ n. uses list (Written n) in
    let one : cell_sum (λ cs. inputs a cs * uses list (Initial a cs)) (all_cells (extents a)) ≡ Sums.sum_cells (extents a) (λ c. inputs a c * uses list (Initial a c)) = cells_are (extents a) (λ c. inputs a c * uses list (Initial a c)) in
    let two : written_sum u a 0 xs ≡ sum_below (λ p. cond ((at list p).writes && nat_eq (at list p).array a) (values_in xs p * u p) 0) (length list) =
    written_sum_is u a 0 xs ∙
    sum_below_same (λ p. cond ((at (accesses_in xs) p).writes && nat_eq (at (accesses_in xs) p).array a) (values_in xs p * u (0 + p)) 0) (λ p. cond ((at (accesses_in xs) p).writes && nat_eq (at (accesses_in xs) p).array a) (values_in xs p * u p) 0) (length (accesses_in xs))
    (λ p l. ap (λ n. cond ((at (accesses_in xs) p).writes && nat_eq (at (accesses_in xs) p).array a) (values_in xs p * u n) 0) (let g : 0 + p ≡ p = omega arith in g)) ∙
    ap (λ (l : List Access). sum_below (λ p. cond ((at l p).writes && nat_eq (at l p).array a) (values_in xs p * u p) 0) (length l)) e in
    ap (λ k. k + written_sum u a 0 xs) one ∙ ap (λ k. Sums.sum_cells (extents a) (λ c. inputs a c * uses list (Initial a c)) + k) two
