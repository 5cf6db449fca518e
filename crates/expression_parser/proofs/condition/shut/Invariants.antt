use Rattle.std.proofs.Common.{◌≡◌}
use Rattle.expression_parser.specs.Terminals.{all_seen}
use Rattle.grammar_reading.specs.Reading as spec
use Rattle.expression_parser.proofs.condition.shut.Given as goal

abbrev pub invariant-closing : goal.invariant-closing
invariant-closing l = spec.shut l.held (all_seen l.text l.ts) ≡ spec.shut l.left (all_seen l.text l.rest)

abbrev pub decreases-closing : goal.decreases-closing
decreases-closing l = l.left
