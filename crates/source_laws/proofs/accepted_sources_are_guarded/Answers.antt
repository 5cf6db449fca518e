use Rattle.source_laws.proofs.accepted_sources_are_guarded.Goals as goal

pub returns : goal.returns
returns c = λ u a. c.ready_sources_are_guarded.ensures u (λ i fit. c.accepted_sources_follow.ensures.forms u i a fit)
