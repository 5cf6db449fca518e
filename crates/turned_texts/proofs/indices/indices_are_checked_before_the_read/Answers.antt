use Rattle.std.specs.Int.{int_wrap}
use Rattle.std.specs.Fmt.{digits}
use Rattle.c_tree.specs.Fault.{disturbed}
use Rattle.instrumentation.specs.Names.{register, result, count, definition_total, use_total, coordinate, pass_variable, active, counter, function_name, written, index_word, current, counts}
use Rattle.turned_texts.specs.Sources.{round}
use Rattle.turned_texts.proofs.Sound.{chase_sound}
use Rattle.turned_texts.proofs.Faults.{in_chase, chase_fits, chase_is_read}
use Rattle.turned_texts.proofs.indices.indices_are_checked_before_the_read.Goals as goal

pub returns-clause-unchecked : goal.returns-clause-unchecked
unfolding int_wrap digits disturbed register result count definition_total use_total coordinate pass_variable active counter function_name written index_word current counts
returns-clause-unchecked c = λ exact. (exact round in_chase chase_sound chase_fits).1 chase_is_read

pub returns-clause-another : goal.returns-clause-another
unfolding int_wrap digits disturbed register result count definition_total use_total coordinate pass_variable active counter function_name written index_word current counts
returns-clause-another c = λ exact. (exact round in_chase chase_sound chase_fits).1 chase_is_read

pub returns-clause-late : goal.returns-clause-late
unfolding int_wrap digits disturbed register result count definition_total use_total coordinate pass_variable active counter function_name written index_word current counts
returns-clause-late c = λ exact. (exact round in_chase chase_sound chase_fits).1 chase_is_read
