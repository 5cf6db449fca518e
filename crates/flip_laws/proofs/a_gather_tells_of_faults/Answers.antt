use Rattle.acceptance.specs.WorkedSources.{gather}
use Rattle.flip_laws.proofs.a_gather_tells_of_faults.Goals as goal

pub returns : goal.returns
returns c = c.accepted_sources_tell_of_faults.ensures gather c.a_gather_is_guarded.ensures.accepted
