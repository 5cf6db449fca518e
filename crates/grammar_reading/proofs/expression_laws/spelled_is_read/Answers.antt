use Rattle.grammar_reading.proofs.Whole.{whole_complete}
use Rattle.grammar_reading.proofs.expression_laws.spelled_is_read.Goals as goal

pub returns : goal.returns
returns c = whole_complete
