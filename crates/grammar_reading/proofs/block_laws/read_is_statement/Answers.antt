use Rattle.grammar_reading.proofs.SoundBlocks.{simple_sound}
use Rattle.grammar_reading.proofs.block_laws.read_is_statement.Goals as goal

pub returns : goal.returns
returns c = λ r some depth ts rest us h. let f = simple_sound r some depth ts rest us h in (f.open_end, f.is)
