use Rattle.std.proofs.Common.{List, subst}
use Rattle.c_tree.specs.Grammar.Texts.{lexemes}
use Rattle.c_tree.specs.Grammar.Units.{IsUnit}
use Rattle.c_tree.specs.declared.token.Token.{Token}
use Rattle.c_parser.proofs.one_unit.Goals as goal

pub returns : goal.returns
returns c = λ text u v d e. c.one_unit.ensures (lexemes text e.tokens) u v (subst (λ (ts : List Token). IsUnit (lexemes text ts) u) (c.one_reading.ensures.one_list text d.tokens e.tokens d.are_tokens e.are_tokens) d.is_unit) e.is_unit
