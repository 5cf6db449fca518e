use Rattle.std.proofs.Common.{◌≡◌, ◌-◌}
use Rattle.expression_parser.specs.Terminals.{all_seen}
use Rattle.grammar_reading.specs.UnitReading as spec
use Rattle.c_parser.proofs.verdict.totals.Given as goal

abbrev pub invariant-loop-array : goal.invariant-loop-array
invariant-loop-array l = spec.totals_at l.arrays (all_seen l.text l.ts) ≡ spec.more_pairs l.array (l.arrays - l.array) (all_seen l.text l.rest)
