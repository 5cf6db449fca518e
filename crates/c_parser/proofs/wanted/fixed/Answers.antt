use Rattle.std.proofs.Common.{◌∙◌, arith}
use Rattle.expression_parser.specs.Terminals.{all_seen}
use Rattle.c_parser.proofs.WantedLemmas.{fixed_ends}
use Rattle.c_parser.proofs.wanted.fixed.Goals as goal

pub returns : goal.returns
returns c = c.loop-token.invariant ∙ fixed_ends c.args.text.now c.args.tokens.now c.loop-token.token-index (all_seen c.args.text.now c.loop-token.rest.now) (omega arith)
