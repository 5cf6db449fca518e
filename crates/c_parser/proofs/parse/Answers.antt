use Rattle.c_parser.proofs.AnswerLemmas.{TokenLaws, is_unit, is_lexical, is_syntax}
use Rattle.c_parser.proofs.parse.Goals as goal

pub returns-clause-unit : goal.returns-clause-unit
returns-clause-unit c = λ u short d.
    let laws : TokenLaws = record { not_both = c.one_reading.ensures.not_both; one_list = c.one_reading.ensures.one_list; one_byte = c.one_reading.ensures.one_byte } in
    is_unit laws c.one_unit.ensures c.args.text.now c.read.result c.read.ensures u d

pub returns-clause-no_tokens : goal.returns-clause-no_tokens
returns-clause-no_tokens c = λ byte short stops.
    let laws : TokenLaws = record { not_both = c.one_reading.ensures.not_both; one_list = c.one_reading.ensures.one_list; one_byte = c.one_reading.ensures.one_byte } in
    is_lexical laws c.args.text.now c.read.result c.read.ensures byte stops

pub returns-clause-no_unit : goal.returns-clause-no_unit
returns-clause-no_unit c = λ tokens short are none.
    let laws : TokenLaws = record { not_both = c.one_reading.ensures.not_both; one_list = c.one_reading.ensures.one_list; one_byte = c.one_reading.ensures.one_byte } in
    is_syntax laws c.args.text.now c.read.result c.read.ensures tokens are none
