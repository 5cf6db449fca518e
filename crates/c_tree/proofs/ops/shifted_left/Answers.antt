use Rattle.std.proofs.Common.{arith}
use Rattle.c_tree.proofs.Shifts.{far_left}
use Rattle.c_tree.proofs.ops.shifted_left.Goals as goal

pub returns-else-b-lt64 : goal.returns-else-b-lt64
returns-else-b-lt64 c = far_left c.args.a c.args.b (omega arith)
