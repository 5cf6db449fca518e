use Rattle.top_call.proofs.Plans.{follows_given}
use Rattle.top_call.proofs.stages.run_on.Goals as goal

pub returns-in-None : goal.returns-in-None
returns-in-None g c = rw c.in-None.is (follows_given _ _ _ c.ran.ensures)
