use Rattle.acceptance_laws.proofs.Before.{nothing_before}
use Rattle.acceptance_laws.proofs.prologues_store_nothing.Goals as goal

pub returns : goal.returns
returns c = nothing_before
