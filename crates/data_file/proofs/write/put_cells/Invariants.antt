use Rattle.std.proofs.Common.{◌≡◌, ◌++◌, drop, flat_map}
use Rattle.data_file.specs.Texts.{cell_text}
use Rattle.data_file.proofs.write.put_cells.Given as goal

abbrev pub invariant-loop-cell : goal.invariant-loop-cell
invariant-loop-cell l = l.out.items ++ flat_map cell_text (drop l.cell-index l.cells) ≡ l.fn.out.items ++ flat_map cell_text l.cells
