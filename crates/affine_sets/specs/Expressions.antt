-- The sum that an expression stands for, over names that are numbered from 1.
use Rattle.std.specs.Prelude.{◌≡◌, ℕ, suc, ◌^◌, Bool, true, not, ◌&&◌, List, [], ◌∷◌, length, map, pos, Some}
use Rattle.std.specs.List.{list_all, slice_get}
use Rattle.c_tree.specs.Plain.{Word, int_param, PlainExpr}
use Rattle.c_tree.specs.Names.{is_among}
use Rattle.c_tree.specs.declared.affine.Affine.{Affine}
use Rattle.acceptance.specs.Items.{Scope}
use Rattle.acceptance.specs.Affine.{is_affine, constant as constant_of, coefficient, holds_throughout, lies_in}
use Rattle.affine_sets.specs.Sums.{coefficient_at, is_ordered, has_variables_to}

-- no name stands twice
abbrev pub are_different : List Word → Bool
are_different [] = true
are_different (x ∷ xs) = not (is_among xs x) && are_different xs

-- a place where these are the signed names
abbrev pub over : List Word → Scope
over names = record { params = map int_param names; words = []; wides = []; loops = []; tables = [] }

-- the constant and the coefficient of each name lie between -2^44 and 2^44
abbrev pub is_small_at : List Word → PlainExpr → Bool
is_small_at names e = lies_in (pos (2 ^ 44)) (constant_of e) && list_all (λ x. lies_in (pos (2 ^ 44)) (coefficient x e)) names

-- affine over the names, and small in each part
abbrev pub is_sum : List Word → PlainExpr → Bool
is_sum names e = is_affine (over names) e && holds_throughout (is_small_at names) e

-- the expression's constant and its coefficients, in order, with no variable but those of the names
pub record StandsFor (names : List Word) (e : PlainExpr) (a : Affine) : Type 0 where
  pub constant : a.constant ≡ constant_of e
  pub coefficients : (i : ℕ) (x : Word) → slice_get names i ≡ Some x → coefficient_at (suc i) a.terms ≡ coefficient x e
  pub ordered : is_ordered a.terms ≡ true
  pub variables : has_variables_to (length names) a.terms ≡ true
