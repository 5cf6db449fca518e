use Rattle.std.proofs.Common.{refl}
use Rattle.std.specs.Int.{int_wrap}
use Rattle.std.specs.Fmt.{digits}
use Rattle.c_tree.specs.Fault.{disturbed}
use Rattle.examples.proofs.shift.printed_shift_passes_over.Goals as goal

pub returns-clause-before_write : goal.returns-clause-before_write
unfolding int_wrap digits disturbed
returns-clause-before_write c = refl

pub returns-clause-before_write_arrays : goal.returns-clause-before_write_arrays
unfolding int_wrap digits disturbed
returns-clause-before_write_arrays c = refl

pub returns-clause-after_read : goal.returns-clause-after_read
unfolding int_wrap digits disturbed
returns-clause-after_read c = refl

pub returns-clause-after_read_arrays : goal.returns-clause-after_read_arrays
unfolding int_wrap digits disturbed
returns-clause-after_read_arrays c = refl

pub returns-clause-at_end : goal.returns-clause-at_end
unfolding int_wrap digits disturbed
returns-clause-at_end c = refl

pub returns-clause-at_end_arrays : goal.returns-clause-at_end_arrays
unfolding int_wrap digits disturbed
returns-clause-at_end_arrays c = refl

pub returns-clause-past_end : goal.returns-clause-past_end
unfolding int_wrap digits disturbed
returns-clause-past_end c = refl

pub returns-clause-past_end_arrays : goal.returns-clause-past_end_arrays
unfolding int_wrap digits disturbed
returns-clause-past_end_arrays c = refl
