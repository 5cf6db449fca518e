use Rattle.instrumentation_laws.proofs.OnSoundInputs.{run_tells}
use Rattle.instrumentation_laws.proofs.every_kept_unit_tells.Goals as goal

pub returns : goal.returns
returns c = run_tells c.law_of_flips.ensures.over c.law_of_flips.ensures.others
