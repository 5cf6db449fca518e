use Rattle.source_laws.proofs.Units.{are_exact}
use Rattle.source_laws.proofs.accepted_sources_are_exact.Goals as goal

pub returns : goal.returns
returns c = are_exact
