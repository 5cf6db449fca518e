-- Flips as faults of a run.
use Rattle.std.specs.Prelude.{◌<◌, length}
use Rattle.c_tree.specs.Plain.{PlainUnit}
use Rattle.c_tree.specs.Arrays.{cell_count, extents_at}
use Rattle.c_tree.specs.Fault.{Fault}
use Rattle.c_tree.specs.Inputs.{PlainInputs, arrays_for}
use Rattle.c_tree.specs.declared.run.Flip.{Flip}

abbrev pub fault_in : Flip → Fault
fault_in flip = record { array = flip.array; cell = flip.cell; bit = flip.bit; place = flip.place }

-- a fault in a bit of a cell that the unit has on these inputs
pub record IsFaultFor (u : PlainUnit) (i : PlainInputs) (f : Fault) : Type 0 where
  pub array : f.array < length (arrays_for u i.ints)
  pub cell : f.cell < cell_count (extents_at (arrays_for u i.ints) f.array)
  pub bit : f.bit < 64
