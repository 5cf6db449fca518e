use Rattle.top_call.proofs.Plans.{follows_given}
use Rattle.top_call.proofs.stages.try_on.Goals as goal

pub returns-in-None : goal.returns-in-None
returns-in-None g c = rw c.in-None.is (follows_given _ _ _ c.tried.ensures)
