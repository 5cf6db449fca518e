use Rattle.instrumentation_laws.proofs.OnSoundInputs.{run_balances}
use Rattle.instrumentation_laws.proofs.every_kept_unit_balances.Goals as goal

pub returns : goal.returns
returns c = run_balances c.law_of_totals.ensures.agree c.law_of_flips.ensures.calm
