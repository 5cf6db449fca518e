use Rattle.std.proofs.Common.{refl}
use Rattle.acceptance.specs.WorkedSources.{gather}
use Rattle.source_laws.proofs.Worked.{gather_accepted}
use Rattle.source_laws.proofs.a_gather_is_guarded.Goals as goal

pub returns-clause-accepted : goal.returns-clause-accepted
returns-clause-accepted c = gather_accepted

pub returns-clause-irregular : goal.returns-clause-irregular
returns-clause-irregular c = refl

pub returns-clause-exact : goal.returns-clause-exact
returns-clause-exact c = λ ns h. c.accepted_sources_are_exact.ensures gather ns gather_accepted h

pub returns-clause-guarded : goal.returns-clause-guarded
returns-clause-guarded c = (c.accepted_sources_are_guarded.ensures gather gather_accepted).guards
