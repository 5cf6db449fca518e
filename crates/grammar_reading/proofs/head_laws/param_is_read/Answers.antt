use Rattle.grammar_reading.proofs.HeadLaws.{range_read, param_read}
use Rattle.grammar_reading.proofs.head_laws.param_is_read.Goals as goal

pub returns-clause-range : goal.returns-clause-range
returns-clause-range c = λ ts rest x d. range_read d

pub returns-clause-param : goal.returns-clause-param
returns-clause-param c = λ r ts rest x d turns ends. param_read r d turns ends
