use Rattle.instrumentation_laws.specs.RegularUnits.{number_for}
use Rattle.guard_laws.proofs.Uninspected.{all_none}
use Rattle.guard_laws.proofs.uninspected_sources_have_no_indices.Goals as goal

pub returns : goal.returns
returns c = λ source a none. all_none (number_for source) a source.body none
