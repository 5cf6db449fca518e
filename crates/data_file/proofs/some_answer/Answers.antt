use Rattle.data_file.proofs.Complete.{some_answer}
use Rattle.data_file.proofs.some_answer.Goals as goal

pub returns : goal.returns
returns c = λ f text own. some_answer f own text
