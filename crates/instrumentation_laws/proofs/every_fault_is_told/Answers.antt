use Rattle.instrumentation_laws.proofs.KeptLaws as laws
use Rattle.instrumentation_laws.proofs.every_fault_is_told.Goals as goal

pub returns : goal.returns
returns c = laws.every_fault_is_told c.law_of_flips.ensures.over
