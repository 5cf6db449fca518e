use Rattle.epilogue.proofs.Kept.{kept}
use Rattle.epilogue.proofs.laws.prologues_keep.Goals as goal

pub returns : goal.returns
returns c = kept c.accepted_sources_follow.ensures.forms
