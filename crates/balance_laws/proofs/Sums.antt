-- Sums of the terms below a number, and over the cells within extents.
use Rattle.std.proofs.Common.{ℤ, pos, ◌≡◌, ◌≢◌, ℕ, zero, suc, ◌+◌, ◌*◌, ◌<◌, ◌≤◌, List, [], ◌∷◌, refl, sym, ap, ◌∙◌, arith, inl, inr}
use Rattle.std.proofs.lemmas.Bool.{cases_lt, cases_eq}
use Rattle.c_tree.specs.Accesses.{sum_below, Within}
use Rattle.c_tree.specs.Arrays.{size_of}
use Rattle.balance_laws.specs.Totals.{sum_cells}

pub sum_below_none : (f : ℕ → ℕ) → sum_below f 0 ≡ 0
unfolding sum_below
sum_below_none f = refl

pub sum_below_more : (f : ℕ → ℕ) (n : ℕ) → sum_below f (suc n) ≡ sum_below f n + f n
unfolding sum_below
sum_below_more f n = refl

-- sums of equal terms are equal
pub sum_below_same : (f g : ℕ → ℕ) (n : ℕ) → ((i : ℕ) → i < n → f i ≡ g i) → sum_below f n ≡ sum_below g n
unfolding sum_below
sum_below_same f g zero h = refl
sum_below_same f g (suc n) h =
    let r = sum_below_same f g n (λ i l. h i (omega arith)) in
    let e = h n (omega arith) in
    omega arith

pub sum_below_plus : (f g : ℕ → ℕ) (n : ℕ) → sum_below (λ i. f i + g i) n ≡ sum_below f n + sum_below g n
unfolding sum_below
sum_below_plus f g zero = refl
sum_below_plus f g (suc n) = let r = sum_below_plus f g n in omega arith

pub sum_below_times : (f : ℕ → ℕ) (k n : ℕ) → sum_below (λ i. f i * k) n ≡ sum_below f n * k
unfolding sum_below
sum_below_times f k zero = omega arith
sum_below_times f k (suc n) = let r = sum_below_times f k n in omega arith

pub sum_below_zero : (f : ℕ → ℕ) (n : ℕ) → ((i : ℕ) → i < n → f i ≡ 0) → sum_below f n ≡ 0
unfolding sum_below
sum_below_zero f zero h = refl
sum_below_zero f (suc n) h =
    let r = sum_below_zero f n (λ i l. h i (omega arith)) in
    let e = h n (omega arith) in
    omega arith

-- all terms but one are 0
pub sum_below_one : (f : ℕ → ℕ) (k n : ℕ) → k < n → ((i : ℕ) → i < n → i ≢ k → f i ≡ 0) → sum_below f n ≡ f k
unfolding sum_below
sum_below_one f k zero l h = absurd (omega arith)
sum_below_one f k (suc n) l h =
    elim (cases_eq n k) [
      | inl e ↦
          (let z = sum_below_zero f n (λ i m. h i (omega arith) (omega arith)) in
          let q = ap f e in
          omega arith)
      | inr ne ↦
          (let r = sum_below_one f k n (omega arith) (λ i m. h i (omega arith)) in
          let e = h n (omega arith) ne in
          omega arith)
    ]

-- a term is at most the sum
pub le_sum_below : (f : ℕ → ℕ) (k n : ℕ) → k < n → f k ≤ sum_below f n
unfolding sum_below
le_sum_below f k zero l = absurd (omega arith)
le_sum_below f k (suc n) l =
    elim (cases_eq n k) [
      | inl e ↦ (let q = ap f e in omega arith)
      | inr ne ↦ (let r = le_sum_below f k n (omega arith) in omega arith)
    ]

-- terms of at most 1 sum up to at most their number
pub sum_below_le : (f : ℕ → ℕ) (n : ℕ) → ((i : ℕ) → f i ≤ 1) → sum_below f n ≤ n
unfolding sum_below
sum_below_le f zero h = omega arith
sum_below_le f (suc n) h =
    let r = sum_below_le f n h in
    let e = h n in
    omega arith

-- a sum that isn't 0 has a term that isn't
pub sum_below_some : (f : ℕ → ℕ) (n : ℕ) → 0 < sum_below f n → (k : ℕ) × (k < n) × (0 < f k)
unfolding sum_below
sum_below_some f zero l = absurd (omega arith)
sum_below_some f (suc n) l =
    elim (cases_lt 0 (f n)) [
      | inl p ↦ (n, omega arith, p)
      | inr z ↦ (let r : (k : ℕ) × (k < n) × (0 < f k) = sum_below_some f n (omega arith) in (r.0, omega arith, r.2))
    ]

pub sum_cells_same : (es : List ℤ) (f g : List ℤ → ℕ) → ((c : List ℤ) → f c ≡ g c) → sum_cells es f ≡ sum_cells es g
unfolding sum_cells
sum_cells_same [] f g h = h []
sum_cells_same (e ∷ es) f g h = sum_below_same _ _ (size_of e) (λ i l. sum_cells_same es (λ c. f (pos i ∷ c)) (λ c. g (pos i ∷ c)) (λ c. h (pos i ∷ c)))

pub sum_cells_plus : (es : List ℤ) (f g : List ℤ → ℕ) → sum_cells es (λ c. f c + g c) ≡ sum_cells es f + sum_cells es g
unfolding sum_cells
sum_cells_plus [] f g = refl
sum_cells_plus (e ∷ es) f g =
    sum_below_same _ _ (size_of e) (λ i l. sum_cells_plus es (λ c. f (pos i ∷ c)) (λ c. g (pos i ∷ c))) ∙
    sum_below_plus (λ i. sum_cells es (λ c. f (pos i ∷ c))) (λ i. sum_cells es (λ c. g (pos i ∷ c))) (size_of e)

pub sum_cells_zero : (es : List ℤ) (f : List ℤ → ℕ) → ((c : List ℤ) → f c ≡ 0) → sum_cells es f ≡ 0
unfolding sum_cells
sum_cells_zero [] f h = h []
sum_cells_zero (e ∷ es) f h = sum_below_zero _ (size_of e) (λ i l. sum_cells_zero es (λ c. f (pos i ∷ c)) (λ c. h (pos i ∷ c)))

-- all terms but that of one cell within the extents are 0
pub sum_cells_one : (es k : List ℤ) (f : List ℤ → ℕ) → Within es k → ((c : List ℤ) → c ≢ k → f c ≡ 0) → sum_cells es f ≡ f k
unfolding sum_cells
sum_cells_one [] [] f w h = refl
sum_cells_one [] (j ∷ k) f w h = absurd w
sum_cells_one (e ∷ es) [] f w h = absurd w
sum_cells_one (e ∷ es) (j ∷ k) f w h =
    let at : (i : ℕ) × (j ≡ pos i) × (i < size_of e) = w.0 in
    sum_below_one (λ i. sum_cells es (λ c. f (pos i ∷ c))) at.0 (size_of e) at.2 (λ i l ne. sum_cells_zero es (λ c. f (pos i ∷ c)) (λ c. h (pos i ∷ c) (λ q. ne (let r : pos i ≡ pos at.0 = (let g : pos i ≡ j = cc in g) ∙ at.1 in cc)))) ∙
    ap (λ z. sum_cells es (λ c. f (z ∷ c))) (sym at.1) ∙
    sum_cells_one es k (λ c. f (j ∷ c)) w.1 (λ c ne. h (j ∷ c) (λ q. ne cc))
