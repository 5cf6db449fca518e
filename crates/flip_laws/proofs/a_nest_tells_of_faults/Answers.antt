use Rattle.acceptance.specs.WorkedSources.{mix}
use Rattle.flip_laws.proofs.a_nest_tells_of_faults.Goals as goal

pub returns : goal.returns
returns c = c.accepted_sources_tell_of_faults.ensures mix c.a_nest_is_guarded.ensures.accepted.accepted
