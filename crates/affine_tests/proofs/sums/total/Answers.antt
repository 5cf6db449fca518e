use Rattle.std.proofs.Common.{◌^◌, lit≤}
use Rattle.affine_tests.proofs.sums.total.Goals as goal

pub plus-requires-clause-left_size : goal.plus-requires-clause-left_size
plus-requires-clause-left_size c = c.ordered_sums.ensures.limits (2 ^ 44) (2 ^ 60) (lit≤ tt) c.args.a.now c.requires.left_size

pub plus-requires-clause-right_size : goal.plus-requires-clause-right_size
plus-requires-clause-right_size c = c.ordered_sums.ensures.limits (2 ^ 44) (2 ^ 60) (lit≤ tt) c.args.b.now c.requires.right_size
