use Rattle.epilogue.proofs.Filled.{filled}
use Rattle.epilogue.proofs.laws.prologues_fill.Goals as goal

pub returns : goal.returns
returns c = filled c.accepted_sources_follow.ensures.forms c.kept_prologues_fill.ensures
