use Rattle.std.proofs.Common.{◌≡◌, ◌++◌, ◌^◌, ◌+◌, pos, true, length}
use Rattle.affine_sets.specs.Sums.{terms_lie_in}
use Rattle.affine_sets.specs.Merged.{merged}
use Rattle.affine_sets.proofs.sums.merged_terms.Given as goal

abbrev pub invariant-loop-left : goal.invariant-loop-left
invariant-loop-left l = record {
  done : l.out ++ merged l.left l.right ≡ merged l.fn.a l.fn.b;
  left : terms_lie_in (pos (2 ^ 60)) l.left ≡ true;
  right : terms_lie_in (pos (2 ^ 60)) l.right ≡ true;
}

abbrev pub decreases-loop-left : goal.decreases-loop-left
decreases-loop-left l = length l.left + length l.right
