use Rattle.std.proofs.Common.{◌≡◌, ◌++◌, drop, map, true, List}
use Rattle.c_tree.specs.Names.{words}
use Rattle.c_tree.specs.Trees.{param}
use Rattle.c_tree.specs.declared.frame.ArrayInfo.{ArrayInfo}
use Rattle.frames.specs.Built.{HaveSums, have_sums}
use Rattle.frames.proofs.arrays.arrays_of.Given as goal

abbrev pub invariant-loop-p : goal.invariant-loop-p
invariant-loop-p l = record {
  left : have_sums (words l.names) (map param (drop l.p-index l.params)) ≡ true;
  whole : (rest : List ArrayInfo) → HaveSums (words l.names) (map param (drop l.p-index l.params)) rest → HaveSums (words l.names) (map param l.params) (l.arrays ++ rest);
}
