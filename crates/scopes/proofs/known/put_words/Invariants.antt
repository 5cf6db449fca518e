use Rattle.std.proofs.Common.{[], map, drop, ◌≤◌, length}
use Rattle.c_tree.specs.Trees.{param}
use Rattle.scopes.specs.Known.{Knows}
use Rattle.scopes.specs.Names.{words_in}
use Rattle.scopes.proofs.known.put_words.Given as goal

abbrev pub invariant-loop-left : goal.invariant-loop-left
invariant-loop-left l = (l.left ≤ length l.words) × Knows l.table.entries (map param l.unit.params) (words_in (drop l.left l.words)) [] []

abbrev pub decreases-loop-left : goal.decreases-loop-left
decreases-loop-left l = l.left
