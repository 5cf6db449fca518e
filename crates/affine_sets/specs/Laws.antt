-- What follows of sums that stand in order.
use Rattle.std.specs.Prelude.{◌≡◌, ℕ, ◌*◌, ◌≤◌, true, List, length, ℤ, pos, ◌*ℤ◌}
use Rattle.acceptance.specs.Affine.{lies_in}
use Rattle.c_tree.specs.declared.affine.Affine.{Affine}
use Rattle.affine_sets.specs.Sums.{Term, coefficient_at, is_ordered, has_variables_to, terms_lie_in, products_lie_in, sum_lies_in}

-- the coefficients determine the terms
abbrev pub TermsAreDetermined : Type 0
TermsAreDetermined = (a b : List Term) → is_ordered a ≡ true → is_ordered b ≡ true → ((v : ℕ) → coefficient_at v a ≡ coefficient_at v b) → a ≡ b

-- of n variables there are at most n terms
abbrev pub TermsAreFew : Type 0
TermsAreFew = (n : ℕ) (ts : List Term) → is_ordered ts ≡ true → has_variables_to n ts ≡ true → length ts ≤ n

-- where the terms lie between -m and m, so does the coefficient of each variable
abbrev pub CoefficientsLieIn : Type 0
CoefficientsLieIn = (m : ℕ) (ts : List Term) → is_ordered ts ≡ true → terms_lie_in (pos m) ts ≡ true → (v : ℕ) → lies_in (pos m) (coefficient_at v ts) ≡ true

-- a sum within a limit is within each larger one
abbrev pub LimitsGrow : Type 0
LimitsGrow = (m n : ℕ) → m ≤ n → (a : Affine) → sum_lies_in (pos m) a ≡ true → sum_lies_in (pos n) a ≡ true

-- where a sum lies between -m and m and a factor between -n and n, the products lie between -m * n and m * n
abbrev pub MultiplesLieIn : Type 0
MultiplesLieIn = (m n : ℕ) (a : Affine) (factor : ℤ) → sum_lies_in (pos m) a ≡ true → lies_in (pos n) factor ≡ true
    → (lies_in (pos (m * n)) (a.constant *ℤ factor) ≡ true) × (products_lie_in (pos (m * n)) factor a.terms ≡ true)
