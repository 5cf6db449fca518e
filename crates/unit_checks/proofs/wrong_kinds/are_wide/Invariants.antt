use Rattle.std.proofs.Common.{◌≡◌, drop}
use Rattle.std.specs.List.{list_all}
use Rattle.c_tree.specs.Names.{is_among, words}
use Rattle.scopes.specs.Scopes.{scope_in}
use Rattle.unit_checks.proofs.wrong_kinds.are_wide.Given as goal

abbrev pub invariant-loop-name : goal.invariant-loop-name
invariant-loop-name l = list_all (is_among (scope_in l.sc).wides) (words l.names) ≡ list_all (is_among (scope_in l.sc).wides) (words (drop l.name-index l.names))
