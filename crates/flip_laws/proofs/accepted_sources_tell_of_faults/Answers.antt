use Rattle.flip_laws.proofs.accepted_sources_tell_of_faults.Goals as goal

pub returns : goal.returns
returns c = λ u a. c.ready_sources_tell_of_faults.ensures u (λ i fit. c.accepted_sources_follow.ensures.forms u i a fit)
