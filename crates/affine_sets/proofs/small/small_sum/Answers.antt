use Rattle.std.proofs.Common.{◌^◌, lit≤}
use Rattle.affine_sets.proofs.Limits.{sum_more}
use Rattle.affine_sets.proofs.small.small_sum.Goals as goal

pub sum_of-requires-clause-left : goal.sum_of-requires-clause-left
sum_of-requires-clause-left c = sum_more (2 ^ 44) (2 ^ 60) (lit≤ tt) c.args.a.now c.requires.left

pub sum_of-requires-clause-right : goal.sum_of-requires-clause-right
sum_of-requires-clause-right c = sum_more (2 ^ 44) (2 ^ 60) (lit≤ tt) c.args.b.now c.requires.right
