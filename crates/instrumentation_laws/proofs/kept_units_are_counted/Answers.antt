use Rattle.instrumentation_laws.proofs.WellFormed.{kept_counted, kept_going}
use Rattle.instrumentation_laws.proofs.kept_units_are_counted.Goals as goal

pub returns-clause-counted : goal.returns-clause-counted
returns-clause-counted c = kept_counted

pub returns-clause-go_on : goal.returns-clause-go_on
returns-clause-go_on c = kept_going
