use Rattle.std.proofs.Common.{◌≡◌, ◌++◌, ◌≤◌, map, drop}
use Rattle.c_tree.specs.Trees.{param, stmt}
use Rattle.instrumentation.specs.Guarded.{arrays_with_extents}
use Rattle.table_builder.specs.Builds.{builds_of, of_each}
use Rattle.table_builder.proofs.tables.add_each_build.Given as goal

abbrev pub invariant-loop-p : goal.invariant-loop-p
invariant-loop-p l = record {
  below : l.array ≤ l.p-index;
  rest : map stmt l.text ++ of_each (builds_of l.params l.whole) l.array (arrays_with_extents (map param (drop l.p-index l.params))) ≡ map stmt l.fn.text ++ of_each (builds_of l.params l.whole) 0 (arrays_with_extents (map param l.params));
}
