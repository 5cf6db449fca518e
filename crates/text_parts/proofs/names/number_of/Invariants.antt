use Rattle.std.proofs.Common.{◌≡◌, ◌≤◌, map, drop}
use Rattle.c_tree.specs.Trees.{param}
use Rattle.instrumentation.specs.Names.{number_from}
use Rattle.instrumentation.specs.Guarded.{array_names}
use Rattle.text_parts.specs.Numbered.{numbers}
use Rattle.text_parts.proofs.names.number_of.Given as goal

abbrev pub invariant-loop-p : goal.invariant-loop-p
invariant-loop-p l = record {
  below : l.number ≤ l.p-index;
  rest : number_from l.number (array_names (map param (drop l.p-index l.params))) l.name.bytes ≡ numbers l.params l.name.bytes;
}
