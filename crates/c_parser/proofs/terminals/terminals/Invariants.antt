use Rattle.std.proofs.Common.{◌≡◌, take}
use Rattle.c_tree.specs.Grammar.Texts as texts
use Rattle.expression_parser.specs.Terminals.{all_seen}
use Rattle.c_parser.proofs.terminals.terminals.Given as goal

abbrev pub invariant-loop-token : goal.invariant-loop-token
invariant-loop-token l = all_seen l.text l.terminals.items ≡ texts.lexemes l.text (take l.token-index l.tokens)
