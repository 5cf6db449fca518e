use Rattle.std.proofs.Common.{◌≡◌, map, drop}
use Rattle.c_tree.specs.Trees.{exprs, stmt}
use Rattle.instrumentation.specs.Prologue.{cell_loops}
use Rattle.unit_builder.proofs.prologue.over_cells.Given as goal

abbrev pub invariant-loop-dimension : goal.invariant-loop-dimension
invariant-loop-dimension l = map stmt l.body ≡ cell_loops l.dimension (exprs (drop l.dimension l.extents)) (map stmt l.fn.body)
