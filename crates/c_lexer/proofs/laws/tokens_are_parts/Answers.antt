use Rattle.c_lexer.proofs.Parts.{in_order, parts}
use Rattle.c_lexer.proofs.laws.tokens_are_parts.Goals as goal

pub returns : goal.returns
returns c = record { in_order = in_order; parts = parts }
