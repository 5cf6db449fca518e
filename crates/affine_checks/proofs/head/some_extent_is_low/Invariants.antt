use Rattle.std.proofs.Common.{◌≡◌, drop, map}
use Rattle.std.specs.List.{list_any}
use Rattle.c_tree.specs.Trees.{param}
use Rattle.acceptance.specs.Head.{extents_in}
use Rattle.affine_checks.specs.Linear.{is_low}
use Rattle.affine_checks.specs.Shown.{intervals_at}
use Rattle.affine_checks.proofs.head.some_extent_is_low.Given as goal

abbrev pub invariant-loop-p : goal.invariant-loop-p
invariant-loop-p l = let p = is_low (intervals_at l.sc) in list_any p (extents_in (map param l.params)) ≡ list_any p (extents_in (map param (drop l.p-index l.params)))
