use Rattle.grammar_reading.proofs.Whole.{whole_cond_sound}
use Rattle.grammar_reading.proofs.expression_laws.read_is_condition.Goals as goal

pub returns : goal.returns
returns c = whole_cond_sound
