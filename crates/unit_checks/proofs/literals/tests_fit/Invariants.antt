use Rattle.std.proofs.Common.{◌≡◌, drop}
use Rattle.c_tree.specs.Trees.{tests}
use Rattle.acceptance.specs.Printed.{literals_fit, tests_fit}
use Rattle.unit_checks.proofs.literals.tests_fit.Given as goal

abbrev pub invariant-loop-a : goal.invariant-loop-a
invariant-loop-a l = tests_fit literals_fit (tests l.a-items) ≡ tests_fit literals_fit (tests (drop l.a-index l.a-items))
