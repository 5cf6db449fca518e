use Rattle.source_laws.proofs.Worked.{mix_accepted}
use Rattle.acceptance.specs.WorkedSources.{mix}
use Rattle.source_laws.proofs.a_nest_is_guarded.Goals as goal

pub returns-clause-accepted : goal.returns-clause-accepted
returns-clause-accepted c = mix_accepted

pub returns-clause-guarded : goal.returns-clause-guarded
returns-clause-guarded c = (c.accepted_sources_are_guarded.ensures mix mix_accepted.accepted).guards
