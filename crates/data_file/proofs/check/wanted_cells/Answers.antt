use Rattle.std.proofs.Common.{sym}
use Rattle.data_file.proofs.check.wanted_cells.Goals as goal

pub cells_of_array-requires-clause-small : goal.cells_of_array-requires-clause-small
cells_of_array-requires-clause-small c = c.requires.frame.extents c.args.array c.in-Some.array.now (sym c.in-Some.ensures.value)
