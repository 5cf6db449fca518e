-- The extents of an array by its number.
use Rattle.std.specs.Prelude.{ℕ, zero, suc, List, [], ◌∷◌}
use Rattle.c_tree.specs.Plain.{Word, PlainExprs, no_exprs}

-- the extents of the array of number a; none where there is no such array
abbrev pub declared_extents : List (Word × PlainExprs) → ℕ → PlainExprs
declared_extents [] a = no_exprs
declared_extents (x ∷ more) zero = x.1
declared_extents (x ∷ more) (suc a) = declared_extents more a
