-- How many dimensions an array has.
use Rattle.std.proofs.Common.{◌≡◌, List, [], ◌∷◌, length, suc, refl, ap}
use Rattle.c_tree.specs.Trees.{exprs}
use Rattle.c_tree.specs.declared.expr.Expr.{Expr}
use Rattle.instrumentation.specs.Pieces.{dimensions}

pub dimensions_are_extents : (es : List Expr) → dimensions (exprs es) ≡ length es
dimensions_are_extents [] = refl
dimensions_are_extents (e ∷ es) = ap suc (dimensions_are_extents es)
