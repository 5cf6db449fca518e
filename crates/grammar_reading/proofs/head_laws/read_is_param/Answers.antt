use Rattle.grammar_reading.proofs.HeadLaws.{range_sound, param_sound}
use Rattle.grammar_reading.proofs.head_laws.read_is_param.Goals as goal

pub returns-clause-range : goal.returns-clause-range
returns-clause-range c = range_sound

pub returns-clause-param : goal.returns-clause-param
returns-clause-param c = param_sound
