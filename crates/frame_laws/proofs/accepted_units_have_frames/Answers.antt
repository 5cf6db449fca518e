use Rattle.frame_laws.proofs.Made.{has_frame}
use Rattle.frame_laws.proofs.accepted_units_have_frames.Goals as goal

pub returns-clause-sources : goal.returns-clause-sources
returns-clause-sources c u accepted = has_frame u (c.heads_are_good.ensures.sources u accepted)

pub returns-clause-printed : goal.returns-clause-printed
returns-clause-printed c u accepted = has_frame u (c.heads_are_good.ensures.printed u accepted)
