-- Sums that say a bound on a difference of two variables, variable 0 being the constant 0.
use Rattle.std.specs.Prelude.{◌≡◌, ℕ, Bool, true, false, ◌&&◌, ◌||◌, ◌⊎◌, ◌↔◌, ◌≤ℤ◌, List, [], ◌∷◌, ℤ, pos, negsuc, ◌-ℤ◌}
use Rattle.std.specs.Ordering.{int_eq}
use Rattle.affine_sets.specs.Sums.{Term, coefficient_at, value_at}
use Rattle.affine_sets.specs.declared.difference.Diff.{Diff}
use Rattle.c_tree.specs.declared.affine.Affine.{Affine}

abbrev pub is_1 : ℤ → Bool
is_1 z = int_eq z (pos 1)

abbrev pub is_minus_1 : ℤ → Bool
is_minus_1 z = int_eq z (negsuc 0)

-- with a constant c, the terms are one of c, x + c, -x + c and x - y + c
abbrev pub is_difference : List Term → Bool
is_difference [] = true
is_difference (t ∷ []) = is_1 t.1 || is_minus_1 t.1
is_difference (t ∷ u ∷ []) = (is_1 t.1 && is_minus_1 u.1) || (is_minus_1 t.1 && is_1 u.1)
is_difference (t ∷ u ∷ w ∷ ts) = false

-- x - y <= c holds at a point
abbrev pub Meets : (ℕ → ℤ) → Diff → Type 0
Meets point d = (point d.x -ℤ point d.y) ≤ℤ d.c

-- a <= 0 and the difference are one, at each point where variable 0 is 0
abbrev pub SaysTheSame : Affine → Diff → Type 0
SaysTheSame a d = (point : ℕ → ℤ) → point 0 ≡ pos 0 → ((value_at point a ≤ℤ pos 0) ↔ Meets point d)

-- x is 0 or has the coefficient 1, and y is 0 or has the coefficient -1
abbrev pub HasVariables : List Term → Diff → Type 0
HasVariables ts d = ((d.x ≡ 0) ⊎ (coefficient_at d.x ts ≡ pos 1)) × ((d.y ≡ 0) ⊎ (coefficient_at d.y ts ≡ negsuc 0))
