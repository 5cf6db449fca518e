use Rattle.std.proofs.Common.{◌≡◌, take}
use Rattle.c_tree.proofs.affine.ItemsAffineCopied.copy.Given as goal

abbrev pub invariant-loop-sum : goal.invariant-loop-sum
invariant-loop-sum l = l.copies ≡ take l.sum-index l.sum-items
