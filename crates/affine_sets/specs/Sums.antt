-- Affine sums: their coefficients, their values, their order and their size.
use Rattle.std.specs.Prelude.{ℕ, suc, Bool, true, ◌&&◌, not, if◌then◌else◌, nat_eq, nat_lt, nat_le, List, [], ◌∷◌, ℤ, pos, ◌+ℤ◌, ◌*ℤ◌}
use Rattle.std.specs.List.{list_all}
use Rattle.std.specs.Ordering.{int_eq}
use Rattle.acceptance.specs.Affine.{lies_in}
use Rattle.c_tree.specs.declared.affine.Affine.{Affine}

-- a variable and its coefficient
abbrev pub Term : Type 0
Term = ℕ × ℤ

-- the coefficient of a variable, in one term
abbrev pub part_at : ℕ → Term → ℤ
part_at v t = if nat_eq t.0 v then t.1 else pos 0

-- the coefficient of a variable, which is 0 where no term has it
abbrev pub coefficient_at : ℕ → List Term → ℤ
coefficient_at v [] = pos 0
coefficient_at v (t ∷ ts) = part_at v t +ℤ coefficient_at v ts

-- what the terms come to where each variable has this value
abbrev pub terms_at : (ℕ → ℤ) → List Term → ℤ
terms_at point [] = pos 0
terms_at point (t ∷ ts) = t.1 *ℤ point t.0 +ℤ terms_at point ts

abbrev pub value_at : (ℕ → ℤ) → Affine → ℤ
value_at point a = a.constant +ℤ terms_at point a.terms

-- in order, and no variable comes before v
abbrev pub is_ordered_from : ℕ → List Term → Bool
is_ordered_from v [] = true
is_ordered_from v (t ∷ ts) = nat_le v t.0 && (not (int_eq t.1 (pos 0)) && is_ordered_from (suc t.0) ts)

-- the terms stand in the order of their variables, each variable once, and no coefficient is 0
abbrev pub is_ordered : List Term → Bool
is_ordered = is_ordered_from 0

-- each coefficient lies between -most and most
abbrev pub terms_lie_in : ℤ → List Term → Bool
terms_lie_in most = list_all (λ t. lies_in most t.1)

-- and so does the constant
abbrev pub sum_lies_in : ℤ → Affine → Bool
sum_lies_in most a = lies_in most a.constant && terms_lie_in most a.terms

-- each coefficient, times the factor, lies between -most and most
abbrev pub products_lie_in : ℤ → ℤ → List Term → Bool
products_lie_in most factor = list_all (λ t. lies_in most (t.1 *ℤ factor))

-- each variable is one of 1 to n
abbrev pub has_variables_to : ℕ → List Term → Bool
has_variables_to n = list_all (λ t. nat_lt 0 t.0 && nat_le t.0 n)
