-- Accesses of a source by the values that a run gives to signed expressions, each with the number of its assignment and the values of the loops around it.
use Rattle.std.specs.Prelude.{ℕ, Bool, true, List, [], ◌∷◌, ℤ}
use Rattle.std.specs.List.{list_all}
use Rattle.c_tree.specs.Plain.{Word, PlainExpr, cell, PlainExprs, no_exprs, more_exprs, PlainTest}
use Rattle.c_tree.specs.Values.{Vars, signed, signed_holds}
use Rattle.c_tree.specs.Accesses.{Access}
use Rattle.c_tree.specs.Instances.{Tagged}

-- the coordinates that subscripts without cells give
abbrev pub signed_all : PlainExprs → Vars → List ℤ
signed_all no_exprs vs = []
signed_all (more_exprs e es) vs = signed e vs ∷ signed_all es vs

abbrev pub cell_access : (Word → ℕ) → Word → PlainExprs → Vars → Bool → Access
cell_access number x at vs writes = record { array = number x; cell = signed_all at vs; writes = writes }

abbrev pub cell_write : (Word → ℕ) → PlainExpr → Vars → List Access
cell_write number (cell x at) vs = cell_access number x at vs true ∷ []
cell_write number _ vs = []

abbrev pub tag : ℕ → Vars → Access → Tagged
tag k vs access = record { access = access; site = k; vars = vs }

abbrev pub tests_hold : List PlainTest → Vars → Bool
tests_hold ts vs = list_all (λ t. signed_holds t.0 (signed t.1 vs) (signed t.2 vs)) ts
