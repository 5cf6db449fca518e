use Rattle.c_lexer.proofs.Answered.{answered, in_order, parts}
use Rattle.c_lexer.proofs.lex.Goals as goal

pub returns : goal.returns
returns c =
    let text = c.args.text.now in
    let right = answered text c.read.result c.read.ensures in
    record { answers = right; in_order = in_order text c.read.result right; parts = parts text c.read.result right }
