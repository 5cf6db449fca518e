use Rattle.top_call.proofs.Refusals.{flip_stop_by}
use Rattle.top_call.proofs.faults.read_fault.Goals as goal

pub returns-in-Err : goal.returns-in-Err
returns-in-Err c = rw c.from.ensures (flip_stop_by c.args.frame.now c.args.inputs.now c.args.text.now c.in-Err.refusal c.in-Err.ensures)
