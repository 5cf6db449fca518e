use Rattle.std.proofs.Common.{◌≡◌, length}
use Rattle.affine_sets.specs.Expressions as sums
use Rattle.c_tree.specs.Names.{words}
use Rattle.sites.proofs.variables.are_different.Given as goal

abbrev pub invariant-loop-left : goal.invariant-loop-left
invariant-loop-left l = sums.are_different (words l.fn.names) ≡ sums.are_different (words l.left)

abbrev pub decreases-loop-left : goal.decreases-loop-left
decreases-loop-left l = length l.left
