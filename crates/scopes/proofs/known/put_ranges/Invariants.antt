use Rattle.std.proofs.Common.{map, drop, ◌≤◌, length}
use Rattle.c_tree.specs.Trees.{param, word}
use Rattle.scopes.specs.Known.{Knows}
use Rattle.scopes.specs.Names.{lines_in, words_in}
use Rattle.scopes.proofs.known.put_ranges.Given as goal

abbrev pub invariant-loop-left : goal.invariant-loop-left
invariant-loop-left l = (l.left ≤ length l.lines) × Knows l.table.entries (map param l.unit.params) (words_in l.unit.words) (map word l.unit.wides) (lines_in (drop l.left l.lines))

abbrev pub decreases-loop-left : goal.decreases-loop-left
decreases-loop-left l = l.left
