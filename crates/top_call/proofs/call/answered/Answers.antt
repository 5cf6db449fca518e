use Rattle.std.proofs.Common.{refl}
use Rattle.top_call.proofs.Clauses.{unread_call}
use Rattle.top_call.proofs.call.answered.Goals as goal

pub returns-in-Err-OutOfMemory : goal.returns-in-Err-OutOfMemory
returns-in-Err-OutOfMemory g c = unread_call _ _ _ refl refl c.no_memory.ensures.status c.no_memory.ensures.line
