use Rattle.c_tree.specs.Arrays.{all_cells}
use Rattle.c_tree.specs.Inputs.{arrays_for}
use Rattle.cell_laws.specs.Rows.{row_major}
use Rattle.cell_laws.proofs.Rows.{row_major_below, get-all_cells}
use Rattle.cell_laws.proofs.Cells.{cells_apart, index_is, memory_has}
use Rattle.cell_laws.proofs.cells_are_row_major.Goals as goal

pub returns-clause-numbers : goal.returns-clause-numbers
returns-clause-numbers c = λ extents cell within. let stands = get-all_cells extents cell within in record {
  below = row_major_below extents cell within;
  stands = stands;
  found = index_is (all_cells extents) (row_major extents cell) cell (cells_apart extents) stands;
}

pub returns-clause-inputs : goal.returns-clause-inputs
returns-clause-inputs c = λ u i fit. memory_has (arrays_for u i.ints) i.cells fit.cells
