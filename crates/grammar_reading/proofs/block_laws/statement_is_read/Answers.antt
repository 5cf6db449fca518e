use Rattle.grammar_reading.proofs.CompleteBlocks.{body_complete}
use Rattle.grammar_reading.proofs.block_laws.statement_is_read.Goals as goal

pub returns : goal.returns
returns c = body_complete
