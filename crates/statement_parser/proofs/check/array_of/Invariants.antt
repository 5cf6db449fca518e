use Rattle.std.proofs.Common.{◌≡◌, ◌≤◌}
use Rattle.grammar_reading.specs.Blocks as spec
use Rattle.statement_parser.proofs.check.array_of.Given as goal

abbrev pub invariant-loop-below : goal.invariant-loop-below
invariant-loop-below l = record {
  few : l.below ≤ 48;
  same : spec.array_below 48 l.code ≡ spec.array_below l.below l.code;
}

abbrev pub decreases-loop-below : goal.decreases-loop-below
decreases-loop-below l = l.below
