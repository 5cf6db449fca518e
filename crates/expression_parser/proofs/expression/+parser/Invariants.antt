use Rattle.std.proofs.Common.{◌≡◌, ◌+◌, ◌≤◌, length, ◌-◌, ◌*◌}
use Rattle.c_tree.specs.Trees.{expr, exprs}
use Rattle.expression_parser.specs.Terminals.{all_seen}
use Rattle.grammar_reading.specs.Reading as spec
use Rattle.expression_parser.proofs.RowLemmas.{behind}
use Rattle.expression_parser.proofs.expression.+parser.Given as goal

abbrev pub decreases-expression : goal.decreases-expression
decreases-expression l = 10 * l.depth

abbrev pub decreases-climb : goal.decreases-climb
decreases-climb l = 10 * l.depth + 1

abbrev pub decreases-close : goal.decreases-close
decreases-close l = 10 * l.depth + 2

abbrev pub decreases-closes : goal.decreases-closes
decreases-closes l = 10 * l.depth + 3

abbrev pub decreases-lone : goal.decreases-lone
decreases-lone l = 10 * l.depth

abbrev pub decreases-applied : goal.decreases-applied
decreases-applied l = 10 * l.depth + 1

abbrev pub decreases-two : goal.decreases-two
decreases-two l = 10 * l.depth + 1

abbrev pub decreases-call : goal.decreases-call
decreases-call l = 10 * l.depth + 2

abbrev pub decreases-wide_cast : goal.decreases-wide_cast
decreases-wide_cast l = 10 * l.depth + 1

abbrev pub decreases-grouped : goal.decreases-grouped
decreases-grouped l = 10 * l.depth + 1

abbrev pub decreases-word_cast : goal.decreases-word_cast
decreases-word_cast l = 10 * l.depth + 2

abbrev pub decreases-converted : goal.decreases-converted
decreases-converted l = 10 * l.depth + 3

abbrev pub decreases-signed : goal.decreases-signed
decreases-signed l = 10 * l.depth + 4

abbrev pub decreases-one_cell : goal.decreases-one_cell
decreases-one_cell l = 10 * l.depth + 1

abbrev pub decreases-cells : goal.decreases-cells
decreases-cells l = 10 * l.depth + 2

abbrev pub decreases-named : goal.decreases-named
decreases-named l = 10 * l.depth + 3

abbrev pub decreases-operand : goal.decreases-operand
decreases-operand l = 10 * l.depth + 5

abbrev pub invariant-closes-loop-turn : goal.invariant-closes-loop-turn
invariant-closes-loop-turn l = spec.closes l.c (spec.expr l.c l.depth) l.count (expr l.fn.first.tree.value) (all_seen l.text l.ts) ≡ spec.closes l.c (spec.expr l.c l.depth) (l.count - l._turn) (expr l.left.tree.value) (all_seen l.text l.rest)

abbrev pub invariant-cells-loop-turn : goal.invariant-cells-loop-turn
invariant-cells-loop-turn l = spec.cells l.c (spec.expr l.c l.depth) l.c.turns (all_seen l.text l.ts) ≡ behind (exprs l.row.trees) (spec.cells l.c (spec.expr l.c l.depth) (l.c.turns - l._turn) (all_seen l.text l.rest))

abbrev pub invariant-climb-loop-turn : goal.invariant-climb-loop-turn
invariant-climb-loop-turn l = spec.climb l.c (spec.expr l.c l.depth) l.low l.c.turns (expr l.fn.first.tree.value) (all_seen l.text l.ts) ≡ spec.climb l.c (spec.expr l.c l.depth) l.low (l.c.turns - l._turn) (expr l.left.tree.value) (all_seen l.text l.rest)
