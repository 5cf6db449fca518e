use Rattle.std.proofs.Common.{◌≡◌, drop, map}
use Rattle.c_tree.specs.Trees.{expr, param}
use Rattle.acceptance.specs.Affine as affine
use Rattle.affine_checks.proofs.small.ints_small.Given as goal

abbrev pub invariant-loop-p : goal.invariant-loop-p
invariant-loop-p l = affine.ints_small (expr l.e) (map param l.params) ≡ affine.ints_small (expr l.e) (map param (drop l.p-index l.params))
