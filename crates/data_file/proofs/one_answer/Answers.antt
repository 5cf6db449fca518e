use Rattle.data_file.proofs.Unique.{one_answer}
use Rattle.data_file.proofs.one_answer.Goals as goal

pub returns : goal.returns
returns c = λ f text r s own a b p q. one_answer f own text r s a b p q
