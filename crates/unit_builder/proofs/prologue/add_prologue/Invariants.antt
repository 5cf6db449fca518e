use Rattle.std.proofs.Common.{◌≡◌, ◌++◌, ◌≤◌, map, drop}
use Rattle.c_tree.specs.Trees.{param, stmt}
use Rattle.instrumentation.specs.Guarded.{arrays_with_extents}
use Rattle.instrumentation.specs.Prologue.{prologue_text}
use Rattle.unit_builder.specs.CellPieces.{initial_of}
use Rattle.unit_builder.proofs.prologue.add_prologue.Given as goal

abbrev pub invariant-loop-p : goal.invariant-loop-p
invariant-loop-p l = record {
  below : l.array ≤ l.p-index;
  rest : map stmt l.text ++ prologue_text (initial_of l.params l.whole) l.array (arrays_with_extents (map param (drop l.p-index l.params))) ≡ map stmt l.fn.text ++ prologue_text (initial_of l.params l.whole) 0 (arrays_with_extents (map param l.params));
}
