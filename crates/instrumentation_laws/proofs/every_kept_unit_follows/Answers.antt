use Rattle.instrumentation_laws.proofs.KeptUnits.{counted_go_on, unit_leaves}
use Rattle.instrumentation_laws.proofs.OnSoundInputs.{run_follows, run_has_totals, run_stays}
use Rattle.instrumentation_laws.proofs.every_kept_unit_follows.Goals as goal

pub returns-clause-steps : goal.returns-clause-steps
returns-clause-steps c = run_follows

pub returns-clause-totals : goal.returns-clause-totals
returns-clause-totals c = run_has_totals

pub returns-clause-on_course : goal.returns-clause-on_course
returns-clause-on_course c = run_stays

pub returns-clause-go_on : goal.returns-clause-go_on
returns-clause-go_on c = counted_go_on

pub returns-clause-leaves : goal.returns-clause-leaves
returns-clause-leaves c = unit_leaves
