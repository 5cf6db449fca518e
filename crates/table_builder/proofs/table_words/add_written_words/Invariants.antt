use Rattle.std.proofs.Common.{◌≡◌, ◌++◌, ◌≤◌, map, drop}
use Rattle.c_tree.specs.Trees.{param, stmts}
use Rattle.instrumentation.specs.Guarded.{arrays_with_extents}
use Rattle.instrumentation.specs.Pieces.{written_words}
use Rattle.text_parts.specs.Numbered.{numbers}
use Rattle.table_builder.specs.Words.{plain_words}
use Rattle.table_builder.proofs.table_words.add_written_words.Given as goal

abbrev pub invariant-loop-p : goal.invariant-loop-p
invariant-loop-p l = record {
  below : l.array ≤ l.p-index;
  rest : plain_words l.words ++ written_words (numbers l.params) (stmts l.whole) l.array (arrays_with_extents (map param (drop l.p-index l.params))) ≡ plain_words l.fn.words ++ written_words (numbers l.params) (stmts l.whole) 0 (arrays_with_extents (map param l.params));
}
