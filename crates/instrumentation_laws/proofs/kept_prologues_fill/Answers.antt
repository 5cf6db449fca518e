use Rattle.instrumentation_laws.proofs.Filling.{kept_fill}
use Rattle.instrumentation_laws.proofs.kept_prologues_fill.Goals as goal

pub returns : goal.returns
returns c = kept_fill
