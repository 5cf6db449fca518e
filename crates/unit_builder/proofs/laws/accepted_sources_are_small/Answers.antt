use Rattle.unit_builder.proofs.Small.{accepted_small}
use Rattle.unit_builder.proofs.laws.accepted_sources_are_small.Goals as goal

pub returns : goal.returns
returns c = accepted_small
