use Rattle.std.proofs.Common.{◌≡◌, drop}
use Rattle.std.specs.List.{list_all}
use Rattle.c_tree.specs.Names.{words}
use Rattle.acceptance.specs.Items.{is_known}
use Rattle.scopes.specs.Scopes.{scope_in}
use Rattle.unit_checks.proofs.known.are_known.Given as goal

abbrev pub invariant-loop-name : goal.invariant-loop-name
invariant-loop-name l = list_all (is_known (scope_in l.sc)) (words l.names) ≡ list_all (is_known (scope_in l.sc)) (words (drop l.name-index l.names))
