use Rattle.std.proofs.Common.{◌≡◌, ◌-◌, length}
use Rattle.data_file.specs.Reading as spec
use Rattle.data_file.proofs.Turns.{before}
use Rattle.data_file.proofs.cells.cells_of.Given as goal

abbrev pub invariant-loop-turn : goal.invariant-loop-turn
invariant-loop-turn l = before l.cells (spec.cells_in (length l.text - l._turn) l.rest) ≡ spec.cells_of l.text
