use Rattle.std.proofs.Common.{◌≡◌, ◌≤◌, drop}
use Rattle.c_tree.specs.Trees.{expr, exprs}
use Rattle.instrumentation.specs.Tables.{cells_of}
use Rattle.text_parts.proofs.cells.cells_from.Given as goal

abbrev pub invariant-loop-dimension : goal.invariant-loop-dimension
invariant-loop-dimension l = record {
  within : l.first ≤ l.dimension;
  made : expr l.cells ≡ cells_of (exprs (drop l.dimension l.extents));
}
