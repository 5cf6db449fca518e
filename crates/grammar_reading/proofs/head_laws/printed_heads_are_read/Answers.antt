use Rattle.grammar_reading.proofs.PrintedHeadLaws.{wide_sound, wide_read, table_sound, table_read}
use Rattle.grammar_reading.proofs.head_laws.printed_heads_are_read.Goals as goal

pub returns-clause-wide : goal.returns-clause-wide
returns-clause-wide c = λ ts rest x. (wide_sound ts rest x, wide_read ts rest x)

pub returns-clause-table_found : goal.returns-clause-table_found
returns-clause-table_found c = table_sound

pub returns-clause-table_only : goal.returns-clause-table_only
returns-clause-table_only c = table_read
