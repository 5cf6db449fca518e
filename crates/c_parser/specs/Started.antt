-- What stands before the statements of a unit, as it is read.
use Rattle.std.specs.Prelude.{ℕ, List, Option, map}
use Rattle.c_tree.specs.Plain.{Word, PlainStmts, PlainUnit}
use Rattle.c_tree.specs.Trees.{word, param}
use Rattle.grammar_reading.specs.UnitReading as spec
use Rattle.c_parser.specs.Seen as seen
use Rattle.c_parser.specs.declared.unit.Start.{Start}

abbrev pub start_seen : Start → spec.Start
start_seen s = record { ranges = seen.ranges s.ranges; name = word s.function.name; params = map param s.function.params; words = seen.declarations s.words }

-- a unit that begins so
abbrev pub unit_seen : spec.Start → Option ℕ → List Word → PlainStmts → PlainUnit
unit_seen start version wides body = record { version = version; ranges = start.ranges; name = start.name; params = start.params; words = start.words; wides = wides; body = body }
