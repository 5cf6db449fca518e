use Rattle.std.proofs.Common.{refl}
use Rattle.std.specs.Int.{int_wrap}
use Rattle.std.specs.Fmt.{digits}
use Rattle.c_tree.specs.Fault.{disturbed}
use Rattle.instrumentation.specs.Names.{register, result, count, definition_total, use_total, coordinate, pass_variable, active, counter, function_name}
use Rattle.turned_texts.proofs.right.fill_is_told.Goals as goal

pub returns-clause-calm : goal.returns-clause-calm
unfolding int_wrap digits register result count definition_total use_total coordinate pass_variable active counter function_name
returns-clause-calm c = refl

pub returns-clause-totals : goal.returns-clause-totals
unfolding int_wrap digits register result count definition_total use_total coordinate pass_variable active counter function_name
returns-clause-totals c = refl

pub returns-clause-told : goal.returns-clause-told
unfolding int_wrap digits disturbed register result count definition_total use_total coordinate pass_variable active counter function_name
returns-clause-told c = refl
