use Rattle.std.proofs.Common.{◌≡◌, ◌≤◌, map, drop}
use Rattle.c_tree.specs.Trees.{param}
use Rattle.instrumentation.specs.Guarded.{arrays_with_extents}
use Rattle.unit_builder.specs.CellPieces.{passes_of}
use Rattle.unit_builder.specs.Parts.{array_piece}
use Rattle.unit_builder.proofs.pieces.cell_pass.Given as goal

abbrev pub invariant-loop-p : goal.invariant-loop-p
invariant-loop-p l = record {
  below : l.number ≤ l.p-index;
  rest : array_piece (passes_of l.params l.whole) l.array l.number (arrays_with_extents (map param (drop l.p-index l.params))) ≡ array_piece (passes_of l.params l.whole) l.array 0 (arrays_with_extents (map param l.params));
}
