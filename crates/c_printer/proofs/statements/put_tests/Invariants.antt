use Rattle.std.proofs.Common.{drop}
use Rattle.c_tree.specs.Trees.{tests}
use Rattle.c_printer.specs.Before.{tests_before, more_tests_before}
use Rattle.c_printer.specs.Scopes.{scope_in}
use Rattle.text_writer.specs.Written.{left_to_add}
use Rattle.c_printer.proofs.statements.put_tests.Given as goal

abbrev pub invariant-loop-test : goal.invariant-loop-test
invariant-loop-test l = left_to_add l.fn.out l.out (tests_before (scope_in l.scope) (tests l.tests)) (more_tests_before (scope_in l.scope) (tests (drop l.test-index l.rest)))
