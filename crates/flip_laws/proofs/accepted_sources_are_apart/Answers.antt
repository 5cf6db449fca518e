use Rattle.flip_laws.proofs.Apart.{accepted_apart}
use Rattle.flip_laws.proofs.accepted_sources_are_apart.Goals as goal

pub returns : goal.returns
returns c = accepted_apart
