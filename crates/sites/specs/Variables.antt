-- The variables at a place, and the sums that affine expressions stand for there.
use Rattle.std.specs.Prelude.{◌≡◌, ℕ, zero, suc, Bool, true, false, ◌&&◌, ◌||◌, nat_eq, nat_le, List, [], ◌∷◌, ◌++◌, length, map, Option, Some, None}
use Rattle.std.specs.List.{list_all, slice_get, AllByRecursion}
use Rattle.c_tree.specs.Names.{words}
use Rattle.c_tree.specs.Plain.{Word, PlainExpr}
use Rattle.c_tree.specs.declared.affine.Affine.{Affine}
use Rattle.acceptance.specs.Affine.{constant, coefficient}
use Rattle.affine_sets.specs.Expressions.{are_different}
use Rattle.affine_sets.specs.Sums.{Term, coefficient_at, is_ordered}
use Rattle.sites.specs.Sites.{Outer, outer_loop, outer_branch}
use Rattle.sites.specs.declared.variables.Variables.{Variables}

-- names with the numbers of their variables, from k on
abbrev pub counted_from : ℕ → List Word → List (Word × ℕ)
counted_from k [] = []
counted_from k (x ∷ xs) = (x, k) ∷ counted_from (suc k) xs

-- the `int64_t` parameters, and then the loops around, the outermost first
abbrev pub variables_around : List Word → List Outer → List (Word × ℕ)
variables_around ints [] = counted_from 1 ints
variables_around ints (outer_loop n v l ∷ os) = variables_around ints os ++ (l.name, v) ∷ []
variables_around ints (outer_branch n first ts ∷ os) = variables_around ints os

abbrev pub is_variable : List (Word × ℕ) → ℕ → Bool
is_variable [] v = false
is_variable (x ∷ xs) v = nat_eq x.1 v || is_variable xs v

-- The sum has the expression's constant and the coefficient of each name, in order, with no 0 and no other variable.
pub record IsSum (xs : List (Word × ℕ)) (e : PlainExpr) (a : Affine) : Type 0 where
  pub constant_is : a.constant ≡ constant e
  pub coefficients : AllByRecursion (λ x. coefficient_at x.1 a.terms ≡ coefficient x.0 e) xs
  pub ordered : is_ordered a.terms ≡ true
  pub variables : list_all (λ t. is_variable xs t.0) a.terms ≡ true

-- ---- as the code holds them

abbrev pub paired : List Word → List ℕ → List (Word × ℕ)
paired [] ns = []
paired (x ∷ xs) [] = []
paired (x ∷ xs) (n ∷ ns) = (x, n) ∷ paired xs ns

abbrev pub variables_in : Variables → List (Word × ℕ)
variables_in v = paired (words v.names) v.numbers

abbrev pub names_of : List (Word × ℕ) → List Word
names_of = map (λ x. x.0)

abbrev pub numbers_of : List (Word × ℕ) → List ℕ
numbers_of = map (λ x. x.1)

-- these, in two lists
pub record Holds (v : Variables) (xs : List (Word × ℕ)) : Type 0 where
  pub names_are : words v.names ≡ names_of xs
  pub numbers_are : v.numbers ≡ numbers_of xs

abbrev pub is_increasing_from : ℕ → List ℕ → Bool
is_increasing_from k [] = true
is_increasing_from k (n ∷ ns) = nat_le k n && is_increasing_from (suc n) ns

-- different names, each with a number, and the numbers from 1 on in their order
pub record IsUsable (v : Variables) : Type 0 where
  pub different : are_different (words v.names) ≡ true
  pub increasing : is_increasing_from 1 v.numbers ≡ true
  pub whole : length v.names ≡ length v.numbers

-- the number of the i-th name from 1
abbrev pub or_zero : Option ℕ → ℕ
or_zero None = 0
or_zero (Some n) = n

abbrev pub number_at : List ℕ → ℕ → ℕ
number_at ns zero = 0
number_at ns (suc i) = or_zero (slice_get ns i)

abbrev pub renumbered : List ℕ → List Term → List Term
renumbered ns = map (λ t. (number_at ns t.0, t.1))
