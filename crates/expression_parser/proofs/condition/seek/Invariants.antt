use Rattle.std.proofs.Common.{◌≡◌, ◌-◌}
use Rattle.c_tree.specs.Trees.{expr}
use Rattle.expression_parser.specs.Terminals.{all_seen}
use Rattle.grammar_reading.specs.Reading as spec
use Rattle.expression_parser.proofs.condition.seek.Given as goal

abbrev pub invariant-loop-turn : goal.invariant-loop-turn
invariant-loop-turn l = spec.seek l.c (spec.expr l.c l.depth) l.count (expr l.fn.first.tree.value) (all_seen l.text l.ts) ≡ spec.seek l.c (spec.expr l.c l.depth) (l.count - l.turn) (expr l.left.tree.value) (all_seen l.text l.rest)
