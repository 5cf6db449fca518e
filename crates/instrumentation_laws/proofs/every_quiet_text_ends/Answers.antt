use Rattle.instrumentation_laws.proofs.KeptLaws as laws
use Rattle.instrumentation_laws.proofs.every_quiet_text_ends.Goals as goal

pub returns : goal.returns
returns c = laws.quiet_ends
