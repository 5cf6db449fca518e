use Rattle.std.proofs.Common.{◌≡◌, drop}
use Rattle.c_tree.specs.Trees.{exprs}
use Rattle.acceptance.specs.Printed.{are_subscripts}
use Rattle.scopes.specs.Scopes.{scope_in}
use Rattle.unit_checks.proofs.kinds.+word.Given as goal

abbrev pub invariant-are_subscripts-loop-e : goal.invariant-are_subscripts-loop-e
invariant-are_subscripts-loop-e l = are_subscripts (scope_in l.sc) (exprs l.e-items) ≡ are_subscripts (scope_in l.sc) (exprs (drop l.e-index l.e-items))
