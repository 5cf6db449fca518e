use Rattle.std.proofs.Common.{◌≡◌, ◌-◌, [], map}
use Rattle.c_tree.specs.Trees as t
use Rattle.expression_parser.specs.Terminals.{all_seen}
use Rattle.grammar_reading.specs.UnitReading as spec
use Rattle.c_parser.proofs.param.params.Given as goal

abbrev pub invariant-loop-turn : goal.invariant-loop-turn
invariant-loop-turn l = spec.params l.c l.c.turns [] (all_seen l.text l.ts) ≡ spec.params l.c (l.c.turns - l._turn) (map t.param l.params) (all_seen l.text l.rest)
