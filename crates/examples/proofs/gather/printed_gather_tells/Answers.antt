use Rattle.std.proofs.Common.{refl}
use Rattle.std.specs.Int.{int_wrap}
use Rattle.std.specs.Fmt.{digits}
use Rattle.c_tree.specs.Fault.{disturbed}
use Rattle.examples.proofs.gather.printed_gather_tells.Goals as goal

pub returns-clause-calm : goal.returns-clause-calm
unfolding int_wrap digits
returns-clause-calm c = refl

pub returns-clause-within : goal.returns-clause-within
unfolding int_wrap digits disturbed
returns-clause-within c = refl

pub returns-clause-within_arrays : goal.returns-clause-within_arrays
unfolding int_wrap digits disturbed
returns-clause-within_arrays c = refl

pub returns-clause-beyond : goal.returns-clause-beyond
unfolding int_wrap digits disturbed
returns-clause-beyond c = refl

pub returns-clause-beyond_arrays : goal.returns-clause-beyond_arrays
unfolding int_wrap digits disturbed
returns-clause-beyond_arrays c = refl
