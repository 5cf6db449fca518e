use Rattle.std.proofs.Common.{◌≡◌, drop}
use Rattle.c_tree.specs.Trees.{exprs}
use Rattle.acceptance.specs.Printed.{all_literals_fit}
use Rattle.unit_checks.proofs.literals.+literals.Given as goal

abbrev pub invariant-all_literals_fit-loop-e : goal.invariant-all_literals_fit-loop-e
invariant-all_literals_fit-loop-e l = all_literals_fit (exprs l.e-items) ≡ all_literals_fit (exprs (drop l.e-index l.e-items))
