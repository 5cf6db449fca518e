use Rattle.std.proofs.Common.{◌≡◌, ◌-◌}
use Rattle.c_tree.specs.Plain.{no_stmts}
use Rattle.c_tree.specs.Trees as t
use Rattle.expression_parser.specs.Terminals.{all_seen}
use Rattle.grammar_reading.specs.UnitReading as spec
use Rattle.c_parser.proofs.top_level.top_level.Given as goal

abbrev pub invariant-loop-turn : goal.invariant-loop-turn
invariant-loop-turn l = spec.top l.c l.c.turns no_stmts (all_seen l.text l.ts) ≡ spec.top l.c (l.c.turns - l._turn) (t.stmts l.list) (all_seen l.text l.rest)
