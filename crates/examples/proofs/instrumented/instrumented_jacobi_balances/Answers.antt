use Rattle.std.proofs.Common.{refl}
use Rattle.std.specs.Int.{int_wrap}
use Rattle.std.specs.Fmt.{digits}
use Rattle.instrumentation.specs.Names.{register, result, count, definition_total, use_total, coordinate, pass_variable, active, counter, function_name}
use Rattle.examples.proofs.instrumented.instrumented_jacobi_balances.Goals as goal

pub returns-clause-verdict : goal.returns-clause-verdict
unfolding int_wrap digits register result count definition_total use_total coordinate pass_variable active counter function_name
returns-clause-verdict c = refl

pub returns-clause-arrays : goal.returns-clause-arrays
unfolding int_wrap digits register result count definition_total use_total coordinate pass_variable active counter function_name
returns-clause-arrays c = refl

pub returns-clause-totals : goal.returns-clause-totals
unfolding int_wrap digits register result count definition_total use_total coordinate pass_variable active counter function_name
returns-clause-totals c = refl
