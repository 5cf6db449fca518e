use Rattle.grammar_reading.proofs.Whole.{whole_cond_complete}
use Rattle.grammar_reading.proofs.expression_laws.condition_is_read.Goals as goal

pub returns : goal.returns
returns c = whole_cond_complete
