use Rattle.std.proofs.Common.{◌≡◌, ◌≤◌, ◌++◌, ◌∷◌, map, drop}
use Rattle.c_tree.specs.Trees.{param, word}
use Rattle.instrumentation.specs.Guarded.{total_names, array_names}
use Rattle.instrumentation.specs.Names.{count}
use Rattle.unit_builder.proofs.guarded.wides.Given as goal

abbrev pub invariant-loop-p : goal.invariant-loop-p
invariant-loop-p l = record {
  below : l.array ≤ l.p-index;
  rest : map word l.wides ++ total_names l.array (array_names (map param (drop l.p-index l.params))) ≡ count ∷ total_names 0 (array_names (map param l.params));
}
