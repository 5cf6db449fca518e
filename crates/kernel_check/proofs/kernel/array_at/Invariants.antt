use Rattle.std.proofs.Common.{◌≡◌, drop, map, slice_get}
use Rattle.c_tree.specs.Names.{arrays_in}
use Rattle.c_tree.specs.Trees.{param}
use Rattle.kernel_check.proofs.kernel.array_at.Given as goal

abbrev pub invariant-loop-p : goal.invariant-loop-p
invariant-loop-p l = slice_get (arrays_in (map param (drop l.p-index l.params))) l.left ≡ slice_get (arrays_in (map param l.params)) l.array
