use Rattle.instrumentation_laws.proofs.KeptLaws as laws
use Rattle.instrumentation_laws.proofs.hidden_faults_change_no_course.Goals as goal

pub returns : goal.returns
returns c = laws.hidden_or_plain c.law_of_flips.ensures.others
