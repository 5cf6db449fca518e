use Rattle.std.proofs.Common.{◌≡◌, drop}
use Rattle.expression_parser.specs.Terminals.{all_seen}
use Rattle.grammar_reading.specs.HeadReading as spec
use Rattle.c_parser.specs.Wanted.{lexemes}
use Rattle.c_parser.proofs.wanted.fixed.Given as goal

abbrev pub invariant-loop-token : goal.invariant-loop-token
invariant-loop-token l = spec.fixed (lexemes l.text l.tokens) (all_seen l.text l.ts) ≡ spec.fixed (lexemes l.text (drop l.token-index l.tokens)) (all_seen l.text l.rest)
