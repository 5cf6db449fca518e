use Rattle.std.proofs.Common.{◌≡◌, drop, map}
use Rattle.std.specs.List.{list_all}
use Rattle.c_tree.specs.Trees.{param}
use Rattle.acceptance.specs.Head.{extents_in}
use Rattle.scopes.specs.Scopes.{scope_in}
use Rattle.affine_checks.specs.Demands.{meets}
use Rattle.affine_checks.specs.Shown.{intervals_at}
use Rattle.affine_checks.proofs.head.params_meet.Given as goal

abbrev pub invariant-loop-p : goal.invariant-loop-p
invariant-loop-p l = let p = meets l.demand (scope_in l.sc) (intervals_at l.sc) in list_all p (extents_in (map param l.params)) ≡ list_all p (extents_in (map param (drop l.p-index l.params)))
