use Rattle.std.proofs.Common.{length, arith}
use Rattle.c_parser.proofs.Places.{token_within}
use Rattle.c_parser.proofs.terminals.terminals.Goals as goal

pub terminal-requires-clause-ordered : goal.terminal-requires-clause-ordered
terminal-requires-clause-ordered c = (token_within c.args.tokens.now 0 (length c.args.text.now) c.requires c.loop-token.token-index _ (omega arith)).0

pub terminal-requires-clause-within : goal.terminal-requires-clause-within
terminal-requires-clause-within c = (token_within c.args.tokens.now 0 (length c.args.text.now) c.requires c.loop-token.token-index _ (omega arith)).1
