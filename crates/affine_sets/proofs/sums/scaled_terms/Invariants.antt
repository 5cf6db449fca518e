use Rattle.std.proofs.Common.{◌≡◌, ◌++◌, ◌^◌, pos, true, length}
use Rattle.affine_sets.specs.Sums.{products_lie_in}
use Rattle.affine_sets.specs.Merged.{scaled}
use Rattle.affine_sets.proofs.sums.scaled_terms.Given as goal

abbrev pub invariant-loop-left : goal.invariant-loop-left
invariant-loop-left l = record {
  done : l.out ++ scaled l.factor l.left ≡ scaled l.factor l.fn.a;
  left : products_lie_in (pos (2 ^ 60)) l.factor l.left ≡ true;
}

abbrev pub decreases-loop-left : goal.decreases-loop-left
decreases-loop-left l = length l.left
