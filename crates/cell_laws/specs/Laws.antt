-- The order of the cells of an array, and the memory that the inputs make.
use Rattle.std.specs.Prelude.{◌≡◌, ◌<◌, true, List, ℤ, Some, slice_get}
use Rattle.c_tree.specs.Plain.{PlainUnit}
use Rattle.c_tree.specs.Arrays.{words_from, is_within, all_cells, cell_count, index_of}
use Rattle.c_tree.specs.Inputs.{PlainInputs, arrays_for, memory_for, Fit}
use Rattle.cell_laws.specs.Rows.{row_major}

-- the row-major number of a cell is its place in the list of all cells
pub record IsNumbered (extents cell : List ℤ) : Type 0 where
  pub below : row_major extents cell < cell_count extents
  pub stands : slice_get (all_cells extents) (row_major extents cell) ≡ Some cell
  pub found : index_of (all_cells extents) cell ≡ row_major extents cell

abbrev pub CellsAreRowMajor : Type 0
CellsAreRowMajor = (extents cell : List ℤ) → is_within cell extents ≡ true → IsNumbered extents cell

-- the memory of the inputs has their words
abbrev pub MemoryHasInputs : Type 0
MemoryHasInputs = (u : PlainUnit) (i : PlainInputs) → Fit u i → words_from (memory_for u i) 0 (arrays_for u i.ints) ≡ i.cells
