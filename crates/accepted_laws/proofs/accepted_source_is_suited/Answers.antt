use Rattle.accepted_laws.proofs.Accepted.{accepted_suited}
use Rattle.accepted_laws.proofs.accepted_source_is_suited.Goals as goal

pub returns : goal.returns
returns c = accepted_suited
