use Rattle.std.proofs.Common.{◌≡◌, length, ap, arith}
use Rattle.std.specs.Int.{int_wrap}
use Rattle.std.specs.Fmt.{digits}
use Rattle.c_tree.specs.Fault.{disturbed}
use Rattle.turned_texts.specs.Sources.{one_to_three}
use Rattle.turned_texts.proofs.Sound.{sums_sound}
use Rattle.turned_texts.proofs.Faults.{in_sums, third_fits, third_is_read}
use Rattle.instrumentation.specs.Names.{register, result, count, definition_total, use_total, coordinate, pass_variable, active, counter, function_name}
use Rattle.turned_texts.proofs.accesses.stored_values_are_kept.Goals as goal

pub returns-clause-accesses : goal.returns-clause-accesses
unfolding int_wrap digits register result count definition_total use_total coordinate pass_variable active counter function_name
returns-clause-accesses c = λ same. let e : 10 ≡ 8 = ap length (same one_to_three sums_sound) in absurd (omega (arith, e))

pub returns-clause-reports : goal.returns-clause-reports
unfolding int_wrap digits disturbed register result count definition_total use_total coordinate pass_variable active counter function_name
returns-clause-reports c = λ exact. (exact one_to_three (in_sums 1 0 4) sums_sound third_fits).1 third_is_read
