use Rattle.std.proofs.Common.{refl}
use Rattle.std.specs.Int.{int_wrap}
use Rattle.std.specs.Fmt.{digits}
use Rattle.c_tree.specs.Fault.{disturbed}
use Rattle.instrumentation.specs.Names.{register, result, count, definition_total, use_total, coordinate, pass_variable, active, counter, function_name, written, index_word, current, counts}
use Rattle.examples.proofs.inspected.instrumented_chase_tells.Goals as goal

pub returns-clause-read : goal.returns-clause-read
unfolding register result count definition_total use_total coordinate pass_variable active counter function_name written index_word current counts int_wrap digits disturbed
returns-clause-read c = refl

pub returns-clause-written : goal.returns-clause-written
unfolding register result count definition_total use_total coordinate pass_variable active counter function_name written index_word current counts int_wrap digits disturbed
returns-clause-written c = refl
