use Rattle.std.proofs.Common.{◌≡◌, ◌-◌, []}
use Rattle.c_tree.specs.Trees.{tests}
use Rattle.expression_parser.specs.Terminals.{all_seen}
use Rattle.grammar_reading.specs.Reading as spec
use Rattle.expression_parser.proofs.condition.conds.Given as goal

abbrev pub invariant-loop-turn : goal.invariant-loop-turn
invariant-loop-turn l = spec.conds l.c l.c.turns 0 [] (all_seen l.text l.ts) ≡ spec.conds l.c (l.c.turns - l._turn) l.held (tests l.tests) (all_seen l.text l.rest)
