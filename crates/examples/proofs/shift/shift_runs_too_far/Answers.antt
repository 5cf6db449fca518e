use Rattle.std.proofs.Common.{refl}
use Rattle.std.specs.Int.{int_wrap}
use Rattle.examples.proofs.shift.shift_runs_too_far.Goals as goal

pub returns-clause-verdict : goal.returns-clause-verdict
unfolding int_wrap
returns-clause-verdict c = refl

pub returns-clause-makes : goal.returns-clause-makes
unfolding int_wrap
returns-clause-makes c = refl

pub returns-clause-arrays : goal.returns-clause-arrays
unfolding int_wrap
returns-clause-arrays c = refl
