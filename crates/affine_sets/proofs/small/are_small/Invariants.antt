use Rattle.std.proofs.Common.{◌≡◌, ◌^◌, pos, length}
use Rattle.affine_sets.specs.Sums.{terms_lie_in}
use Rattle.affine_sets.proofs.small.are_small.Given as goal

abbrev pub invariant-loop-left : goal.invariant-loop-left
invariant-loop-left l = terms_lie_in (pos (2 ^ 44)) l.fn.terms ≡ terms_lie_in (pos (2 ^ 44)) l.left

abbrev pub decreases-loop-left : goal.decreases-loop-left
decreases-loop-left l = length l.left
