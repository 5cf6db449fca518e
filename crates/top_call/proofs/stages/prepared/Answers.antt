use Rattle.top_call.proofs.Plans.{follows_given}
use Rattle.top_call.proofs.stages.prepared.Goals as goal

pub returns-in-Demo : goal.returns-in-Demo
returns-in-Demo g c = rw c.in-Demo.is (follows_given _ _ _ c.demo.ensures)
