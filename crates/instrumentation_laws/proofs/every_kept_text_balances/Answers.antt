use Rattle.instrumentation_laws.proofs.KeptLaws as laws
use Rattle.instrumentation_laws.proofs.every_kept_text_balances.Goals as goal

pub returns : goal.returns
returns c = laws.every_kept_text_balances c.law_of_totals.ensures.agree c.law_of_flips.ensures.calm
