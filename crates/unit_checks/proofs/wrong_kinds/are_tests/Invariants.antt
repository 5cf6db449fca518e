use Rattle.std.proofs.Common.{◌≡◌, drop}
use Rattle.std.specs.List.{list_all}
use Rattle.c_tree.specs.Trees.{tests}
use Rattle.acceptance.specs.Printed.{is_test}
use Rattle.scopes.specs.Scopes.{scope_in}
use Rattle.unit_checks.proofs.wrong_kinds.are_tests.Given as goal

abbrev pub invariant-loop-test : goal.invariant-loop-test
invariant-loop-test l = list_all (is_test (scope_in l.sc)) (tests l.test-items) ≡ list_all (is_test (scope_in l.sc)) (tests (drop l.test-index l.test-items))
