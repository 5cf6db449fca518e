use Rattle.std.proofs.Common.{◌≡◌, ◌+◌, ◌-◌, ◌*◌, ◌≤◌}
use Rattle.c_tree.specs.Plain.{no_stmts}
use Rattle.c_tree.specs.Trees.{stmts}
use Rattle.expression_parser.specs.Terminals.{all_seen}
use Rattle.grammar_reading.specs.Blocks as spec
use Rattle.statement_parser.proofs.statements.+statements.Given as goal

abbrev pub decreases-unbraced : goal.decreases-unbraced
decreases-unbraced l = 10 * l.depth

abbrev pub decreases-block : goal.decreases-block
decreases-block l = 10 * l.depth + 1

abbrev pub decreases-statement : goal.decreases-statement
decreases-statement l = 10 * l.depth + 2

abbrev pub decreases-other_part : goal.decreases-other_part
decreases-other_part l = 10 * l.depth + 3

abbrev pub decreases-choice : goal.decreases-choice
decreases-choice l = 10 * l.depth + 4

abbrev pub decreases-if_or_check : goal.decreases-if_or_check
decreases-if_or_check l = 10 * l.depth + 5

abbrev pub decreases-for_loop : goal.decreases-for_loop
decreases-for_loop l = 10 * l.depth + 5

abbrev pub decreases-by_symbol : goal.decreases-by_symbol
decreases-by_symbol l = 10 * l.depth + 6

abbrev pub decreases-by_front : goal.decreases-by_front
decreases-by_front l = 10 * l.depth + 7

abbrev pub invariant-block-loop-turn : goal.invariant-block-loop-turn
invariant-block-loop-turn l = record {
  same : spec.inside (spec.simple l.c l.depth) l.c.turns 0 no_stmts (all_seen l.text l.ts) ≡ spec.inside (spec.simple l.c l.depth) (l.c.turns - l._turn) l.held (stmts l.list) (all_seen l.text l.rest);
  few : l.held ≤ l._turn;
}
