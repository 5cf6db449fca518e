use Rattle.std.proofs.Common.{refl}
use Rattle.std.specs.Int.{int_wrap}
use Rattle.std.specs.Fmt.{digits}
use Rattle.c_tree.specs.Fault.{disturbed}
use Rattle.examples.proofs.broadcast.printed_broadcast_tells.Goals as goal

pub returns-clause-calm : goal.returns-clause-calm
unfolding int_wrap digits
returns-clause-calm c = refl

pub returns-clause-verdict : goal.returns-clause-verdict
unfolding int_wrap digits disturbed
returns-clause-verdict c = refl

pub returns-clause-arrays : goal.returns-clause-arrays
unfolding int_wrap digits disturbed
returns-clause-arrays c = refl

pub returns-clause-totals : goal.returns-clause-totals
unfolding int_wrap digits disturbed
returns-clause-totals c = refl
