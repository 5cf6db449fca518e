use Rattle.top_call.specs.Sources.{AnySource}
use Rattle.top_call.proofs.Refusals.{stop_by}
use Rattle.top_call.proofs.judging.source.Goals as goal

pub returns-in-Err : goal.returns-in-Err
returns-in-Err c = rw c.from.ensures (stop_by AnySource c.args.text.now c.in-Err.refusal c.in-Err.ensures)
