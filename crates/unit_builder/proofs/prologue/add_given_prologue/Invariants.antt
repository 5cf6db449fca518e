use Rattle.std.proofs.Common.{◌≡◌, ◌+◌, ◌++◌, ◌≤◌, length, map, drop}
use Rattle.c_tree.specs.Trees.{param, stmt}
use Rattle.instrumentation.specs.Guarded.{arrays_with_extents}
use Rattle.instrumentation.specs.Prologue.{prologue_text}
use Rattle.unit_builder.specs.CellPieces.{initial_pieces}
use Rattle.unit_builder.proofs.prologue.add_given_prologue.Given as goal

abbrev pub invariant-loop-p : goal.invariant-loop-p
invariant-loop-p l = record {
  below : l.array ≤ l.p-index;
  enough : l.array + length (arrays_with_extents (map param (drop l.p-index l.params))) ≤ length l.pieces;
  rest : map stmt l.text ++ prologue_text (initial_pieces l.pieces) l.array (arrays_with_extents (map param (drop l.p-index l.params))) ≡ map stmt l.fn.text ++ prologue_text (initial_pieces l.pieces) 0 (arrays_with_extents (map param l.params));
}
