use Rattle.fault_plan.proofs.Decided.{one_answer}
use Rattle.fault_plan.proofs.one_flip_answer.Goals as goal

pub returns : goal.returns
returns c = λ f i text r s own a b p q. one_answer f own i text r s a b p q
