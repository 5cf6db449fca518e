use Rattle.std.proofs.Common.{lit<}
use Rattle.std.specs.Int.{int_wrap}
use Rattle.std.specs.Fmt.{digits}
use Rattle.c_tree.specs.Fault.{disturbed}
use Rattle.turned_texts.specs.Sources.{one_to_three}
use Rattle.turned_texts.proofs.Sound.{sums_sound}
use Rattle.turned_texts.proofs.Faults.{in_sums, first_fits, first_is_read}
use Rattle.instrumentation.specs.Names.{register, result, count, definition_total, use_total, coordinate, pass_variable, active, counter, function_name}
use Rattle.turned_texts.proofs.totals.totals_are_wide.Goals as goal

pub returns : goal.returns
unfolding int_wrap digits disturbed register result count definition_total use_total coordinate pass_variable active counter function_name
returns c = λ exact. (exact one_to_three (in_sums 0 63 0) sums_sound (first_fits 63 (lit< tt))).1 (first_is_read 63)
