use Rattle.grammar_reading.proofs.UnitSound.{unit_sound}
use Rattle.grammar_reading.proofs.unit_laws.read_is_unit.Goals as goal

pub returns : goal.returns
returns c = unit_sound
