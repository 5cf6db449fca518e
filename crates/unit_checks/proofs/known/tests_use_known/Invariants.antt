use Rattle.std.proofs.Common.{◌≡◌, drop}
use Rattle.c_tree.specs.Trees.{tests}
use Rattle.acceptance.specs.Printed.{tests_use_known}
use Rattle.unit_checks.specs.Known.{known_in}
use Rattle.unit_checks.proofs.known.tests_use_known.Given as goal

abbrev pub invariant-loop-a : goal.invariant-loop-a
invariant-loop-a l = tests_use_known (known_in l.known) (tests l.a-items) ≡ tests_use_known (known_in l.known) (tests (drop l.a-index l.a-items))
