-- The reports on these units compute.
use Rattle.std.proofs.Common.{refl}
use Rattle.std.specs.Fmt.{digits}
use Rattle.reports.proofs.laws.worked_reports.Goals as goal

pub returns-clause-mix : goal.returns-clause-mix
unfolding digits
returns-clause-mix c = refl

pub returns-clause-gather : goal.returns-clause-gather
unfolding digits
returns-clause-gather c = refl
