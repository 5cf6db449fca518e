use Rattle.grammar_reading.proofs.Whole.{whole_sound}
use Rattle.grammar_reading.proofs.expression_laws.read_is_spelled.Goals as goal

pub returns : goal.returns
returns c = whole_sound
