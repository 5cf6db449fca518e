use Rattle.std.proofs.Common.{refl}
use Rattle.std.specs.Int.{int_wrap}
use Rattle.std.specs.Fmt.{digits}
use Rattle.examples.proofs.shift.printed_shift_balances.Goals as goal

pub returns-clause-verdict : goal.returns-clause-verdict
unfolding int_wrap digits
returns-clause-verdict c = refl

pub returns-clause-arrays : goal.returns-clause-arrays
unfolding int_wrap digits
returns-clause-arrays c = refl

pub returns-clause-totals : goal.returns-clause-totals
unfolding int_wrap digits
returns-clause-totals c = refl

pub returns-clause-makes : goal.returns-clause-makes
unfolding int_wrap digits
returns-clause-makes c = refl

pub returns-clause-one_word : goal.returns-clause-one_word
unfolding int_wrap digits
returns-clause-one_word c = refl

pub returns-clause-one_word_totals : goal.returns-clause-one_word_totals
unfolding int_wrap digits
returns-clause-one_word_totals c = refl

pub returns-clause-one_word_arrays : goal.returns-clause-one_word_arrays
unfolding int_wrap digits
returns-clause-one_word_arrays c = refl
