use Rattle.std.proofs.Common.{◌≡◌, map, take}
use Rattle.c_tree.specs.Trees.{expr}
use Rattle.c_tree.proofs.expr.+copy_expr.Given as goal

abbrev pub invariant-copy_exprs-loop-e : goal.invariant-copy_exprs-loop-e
invariant-copy_exprs-loop-e l = map expr l.copies ≡ map expr (take l.e-index l.e-items)
