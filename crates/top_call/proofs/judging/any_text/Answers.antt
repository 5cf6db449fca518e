use Rattle.top_call.specs.Sources.{AnyText}
use Rattle.top_call.proofs.Refusals.{stop_by}
use Rattle.top_call.proofs.judging.any_text.Goals as goal

pub returns-in-Err : goal.returns-in-Err
returns-in-Err c = rw c.from.ensures (stop_by AnyText c.args.text.now c.in-Err.refusal c.in-Err.ensures)
