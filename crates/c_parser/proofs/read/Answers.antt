use Rattle.std.proofs.Common.{List, subst}
use Rattle.c_tree.specs.declared.token.Token.{Token}
use Rattle.c_parser.specs.Answers.{IsUnitOf}
use Rattle.c_parser.proofs.AnswerLemmas.{TokenLaws, answer_of}
use Rattle.c_parser.proofs.read.Goals as goal

pub returns : goal.returns
returns c =
    let laws : TokenLaws = record { not_both = c.one_reading.ensures.not_both; one_list = c.one_reading.ensures.one_list; one_byte = c.one_reading.ensures.one_byte } in
    answer_of laws c.args.text.now c.in-Ok.tokens c.unit_among.result c.in-Ok.ensures.answers (subst (λ (ts : List Token). IsUnitOf c.args.text.now ts c.unit_among.result) c.as_slice.ensures c.unit_among.ensures)
