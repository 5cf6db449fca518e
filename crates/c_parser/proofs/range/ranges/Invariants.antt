use Rattle.std.proofs.Common.{◌≡◌, ◌-◌, []}
use Rattle.expression_parser.specs.Terminals.{all_seen}
use Rattle.grammar_reading.specs.UnitReading as spec
use Rattle.c_parser.specs.Seen as seen
use Rattle.c_parser.proofs.range.ranges.Given as goal

abbrev pub invariant-loop-turn : goal.invariant-loop-turn
invariant-loop-turn l = spec.ranges l.fn.c.turns [] (all_seen l.text l.ts) ≡ spec.ranges (l.fn.c.turns - l._turn) (seen.ranges l.ranges) (all_seen l.text l.rest)
