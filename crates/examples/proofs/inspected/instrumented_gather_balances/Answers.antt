use Rattle.std.proofs.Common.{refl}
use Rattle.std.specs.Int.{int_wrap}
use Rattle.std.specs.Fmt.{digits}
use Rattle.c_tree.specs.Fault.{disturbed}
use Rattle.instrumentation.specs.Names.{register, result, count, definition_total, use_total, coordinate, pass_variable, active, counter, function_name, written, index_word, current, counts}
use Rattle.examples.proofs.inspected.instrumented_gather_balances.Goals as goal

pub returns-clause-verdict : goal.returns-clause-verdict
unfolding register result count definition_total use_total coordinate pass_variable active counter function_name written index_word current counts int_wrap digits disturbed
returns-clause-verdict c = refl

pub returns-clause-arrays : goal.returns-clause-arrays
unfolding register result count definition_total use_total coordinate pass_variable active counter function_name written index_word current counts int_wrap digits disturbed
returns-clause-arrays c = refl

pub returns-clause-totals : goal.returns-clause-totals
unfolding register result count definition_total use_total coordinate pass_variable active counter function_name written index_word current counts int_wrap digits disturbed
returns-clause-totals c = refl

pub returns-clause-tables : goal.returns-clause-tables
unfolding register result count definition_total use_total coordinate pass_variable active counter function_name written index_word current counts int_wrap digits disturbed
returns-clause-tables c = refl

pub returns-clause-makes : goal.returns-clause-makes
unfolding register result count definition_total use_total coordinate pass_variable active counter function_name written index_word current counts int_wrap digits disturbed
returns-clause-makes c = refl

pub returns-clause-reads : goal.returns-clause-reads
unfolding register result count definition_total use_total coordinate pass_variable active counter function_name written index_word current counts int_wrap digits disturbed
returns-clause-reads c = refl
