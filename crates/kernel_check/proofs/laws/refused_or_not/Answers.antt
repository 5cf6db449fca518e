use Rattle.kernel_check.proofs.Refused.{source_answer, printed_answer}
use Rattle.kernel_check.proofs.laws.refused_or_not.Goals as goal

pub returns-clause-source : goal.returns-clause-source
returns-clause-source c = source_answer

pub returns-clause-printed : goal.returns-clause-printed
returns-clause-printed c = printed_answer
