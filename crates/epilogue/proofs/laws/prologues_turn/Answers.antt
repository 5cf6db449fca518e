use Rattle.epilogue.proofs.Turned.{turned}
use Rattle.epilogue.proofs.laws.prologues_turn.Goals as goal

pub returns : goal.returns
returns c = turned c.accepted_sources_follow.ensures.forms
