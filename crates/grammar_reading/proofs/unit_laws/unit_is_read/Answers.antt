use Rattle.grammar_reading.proofs.UnitComplete.{unit_read}
use Rattle.grammar_reading.proofs.unit_laws.unit_is_read.Goals as goal

pub returns : goal.returns
returns c = λ ts u d. unit_read d
