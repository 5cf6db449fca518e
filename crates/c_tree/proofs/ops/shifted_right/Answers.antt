use Rattle.std.proofs.Common.{arith}
use Rattle.c_tree.proofs.Shifts.{far_right}
use Rattle.c_tree.proofs.ops.shifted_right.Goals as goal

pub returns-else-b-lt64 : goal.returns-else-b-lt64
returns-else-b-lt64 c = far_right c.args.a c.args.b c.ranges.a.fits (omega arith)
