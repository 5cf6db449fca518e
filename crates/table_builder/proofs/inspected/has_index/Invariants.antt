use Rattle.std.proofs.Common.{◌≡◌, drop}
use Rattle.c_tree.specs.Trees.{exprs}
use Rattle.instrumentation.specs.Subscripts.{indices_in}
use Rattle.table_builder.proofs.inspected.has_index.Given as goal

abbrev pub invariant-loop-e : goal.invariant-loop-e
invariant-loop-e l = indices_in (exprs (drop l.e-index l.e-items)) ≡ indices_in (exprs l.e-items)
