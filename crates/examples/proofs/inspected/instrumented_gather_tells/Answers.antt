use Rattle.std.proofs.Common.{refl}
use Rattle.std.specs.Int.{int_wrap}
use Rattle.std.specs.Fmt.{digits}
use Rattle.c_tree.specs.Fault.{disturbed}
use Rattle.instrumentation.specs.Names.{register, result, count, definition_total, use_total, coordinate, pass_variable, active, counter, function_name, written, index_word, current, counts}
use Rattle.examples.proofs.inspected.instrumented_gather_tells.Goals as goal

pub returns-clause-within : goal.returns-clause-within
unfolding register result count definition_total use_total coordinate pass_variable active counter function_name written index_word current counts int_wrap digits disturbed
returns-clause-within c = refl

pub returns-clause-within_arrays : goal.returns-clause-within_arrays
unfolding register result count definition_total use_total coordinate pass_variable active counter function_name written index_word current counts int_wrap digits disturbed
returns-clause-within_arrays c = refl

pub returns-clause-within_totals : goal.returns-clause-within_totals
unfolding register result count definition_total use_total coordinate pass_variable active counter function_name written index_word current counts int_wrap digits disturbed
returns-clause-within_totals c = refl

pub returns-clause-beyond : goal.returns-clause-beyond
unfolding register result count definition_total use_total coordinate pass_variable active counter function_name written index_word current counts int_wrap digits disturbed
returns-clause-beyond c = refl

pub returns-clause-beyond_arrays : goal.returns-clause-beyond_arrays
unfolding register result count definition_total use_total coordinate pass_variable active counter function_name written index_word current counts int_wrap digits disturbed
returns-clause-beyond_arrays c = refl

pub returns-clause-beyond_makes : goal.returns-clause-beyond_makes
unfolding register result count definition_total use_total coordinate pass_variable active counter function_name written index_word current counts int_wrap digits disturbed
returns-clause-beyond_makes c = refl

pub returns-clause-beyond_source : goal.returns-clause-beyond_source
unfolding register result count definition_total use_total coordinate pass_variable active counter function_name written index_word current counts int_wrap digits disturbed
returns-clause-beyond_source c = refl
