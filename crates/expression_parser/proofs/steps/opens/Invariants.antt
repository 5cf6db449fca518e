use Rattle.std.proofs.Common.{◌≡◌, ◌+◌, ◌≤◌, length}
use Rattle.expression_parser.specs.Terminals.{all_seen}
use Rattle.grammar_reading.specs.Reading as spec
use Rattle.expression_parser.proofs.steps.opens.Given as goal

abbrev pub invariant-front : goal.invariant-front
invariant-front l = record {
  whole : spec.opens (all_seen l.text l.ts) ≡ (l.count + (spec.opens (all_seen l.text l.rest)).0, (spec.opens (all_seen l.text l.rest)).1);
  room : l.count + length l.rest ≤ length l.ts;
}

abbrev pub decreases-front : goal.decreases-front
decreases-front l = length l.rest
