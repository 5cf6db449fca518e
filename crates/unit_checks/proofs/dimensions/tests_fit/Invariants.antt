use Rattle.std.proofs.Common.{◌≡◌, drop}
use Rattle.c_tree.specs.Trees.{tests}
use Rattle.acceptance.specs.Printed.{fits_dimensions, dimensions, tests_fit}
use Rattle.scopes.specs.Scopes.{scope_in}
use Rattle.unit_checks.proofs.dimensions.tests_fit.Given as goal

abbrev pub invariant-loop-a : goal.invariant-loop-a
invariant-loop-a l = tests_fit (fits_dimensions (dimensions (scope_in l.sc))) (tests l.a-items) ≡ tests_fit (fits_dimensions (dimensions (scope_in l.sc))) (tests (drop l.a-index l.a-items))
