use Rattle.instrumentation_laws.proofs.Regular.{guarded_instrumented}
use Rattle.instrumentation_laws.proofs.regular_units_are_counted.Goals as goal

pub returns : goal.returns
returns c = record { guarded = guarded_instrumented }
