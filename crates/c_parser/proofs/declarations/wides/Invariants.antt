use Rattle.std.proofs.Common.{◌≡◌, ◌-◌, []}
use Rattle.c_tree.specs.Names as names
use Rattle.expression_parser.specs.Terminals.{all_seen}
use Rattle.grammar_reading.specs.UnitReading as spec
use Rattle.c_parser.proofs.declarations.wides.Given as goal

abbrev pub invariant-loop-turn : goal.invariant-loop-turn
invariant-loop-turn l = spec.wides l.fn.c.turns [] (all_seen l.text l.ts) ≡ spec.wides (l.fn.c.turns - l._turn) (names.words l.wides) (all_seen l.text l.rest)
