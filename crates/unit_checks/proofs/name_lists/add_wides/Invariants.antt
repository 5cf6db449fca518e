use Rattle.std.proofs.Common.{◌≡◌, ◌++◌, map, drop}
use Rattle.c_tree.specs.Trees.{word}
use Rattle.unit_checks.specs.Repeats.{names_at}
use Rattle.unit_checks.proofs.name_lists.add_wides.Given as goal

abbrev pub invariant-loop-name : goal.invariant-loop-name
invariant-loop-name l = names_at l.names ++ map word (drop l.name-index l.wides) ≡ names_at l.fn.names ++ map word l.wides
