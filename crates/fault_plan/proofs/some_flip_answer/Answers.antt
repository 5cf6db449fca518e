use Rattle.fault_plan.proofs.Decided.{some_answer}
use Rattle.fault_plan.proofs.some_flip_answer.Goals as goal

pub returns : goal.returns
returns c = λ f i text. some_answer f i text
