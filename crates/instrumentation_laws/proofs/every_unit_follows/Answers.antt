use Rattle.instrumentation_laws.proofs.Units.{unit_follows, regular_follows}
use Rattle.instrumentation_laws.proofs.every_unit_follows.Goals as goal

pub returns-clause-follows : goal.returns-clause-follows
returns-clause-follows c = unit_follows

pub returns-clause-alike : goal.returns-clause-alike
returns-clause-alike c = regular_follows
