use Rattle.std.proofs.Common.{◌≡◌, ◌≤◌, max, map, drop}
use Rattle.c_tree.specs.Trees.{param, stmts}
use Rattle.instrumentation.specs.Guarded.{arrays_with_extents}
use Rattle.instrumentation.specs.Pieces.{widest}
use Rattle.text_parts.specs.Numbered.{numbers}
use Rattle.table_builder.proofs.table_words.widest.Given as goal

abbrev pub invariant-loop-p : goal.invariant-loop-p
invariant-loop-p l = record {
  below : l.array ≤ l.p-index;
  rest : max l.most (widest (numbers l.params) (stmts l.whole) l.array (arrays_with_extents (map param (drop l.p-index l.params)))) ≡ widest (numbers l.params) (stmts l.whole) 0 (arrays_with_extents (map param l.params));
}
