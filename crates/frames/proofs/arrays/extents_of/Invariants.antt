use Rattle.std.proofs.Common.{◌≡◌, ◌++◌, drop, true, List}
use Rattle.c_tree.specs.Names.{words}
use Rattle.c_tree.specs.Trees.{exprs}
use Rattle.c_tree.specs.declared.affine.Affine.{Affine}
use Rattle.frames.specs.Built.{AreSums, are_sums}
use Rattle.frames.proofs.arrays.extents_of.Given as goal

abbrev pub invariant-loop-e : goal.invariant-loop-e
invariant-loop-e l = record {
  left : are_sums (words l.names) (exprs (drop l.e-index l.e-items)) ≡ true;
  whole : (rest : List Affine) → AreSums (words l.names) (exprs (drop l.e-index l.e-items)) rest → AreSums (words l.names) (exprs l.e-items) (l.sums ++ rest);
}
