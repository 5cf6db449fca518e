use Rattle.std.proofs.Common.{[], map, drop, ◌≤◌, length}
use Rattle.c_tree.specs.Trees.{param}
use Rattle.scopes.specs.Known.{Knows}
use Rattle.scopes.proofs.known.put_params.Given as goal

abbrev pub invariant-loop-left : goal.invariant-loop-left
invariant-loop-left l = (l.left ≤ length l.params) × Knows l.table.entries (map param (drop l.left l.params)) [] [] []

abbrev pub decreases-loop-left : goal.decreases-loop-left
decreases-loop-left l = l.left
