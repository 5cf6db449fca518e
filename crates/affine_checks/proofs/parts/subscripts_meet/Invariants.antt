use Rattle.std.proofs.Common.{◌≡◌, drop}
use Rattle.c_tree.specs.Trees.{exprs}
use Rattle.acceptance.specs.Parts.{subscripts_hold}
use Rattle.scopes.specs.Scopes.{scope_in}
use Rattle.affine_checks.specs.Demands.{meets}
use Rattle.affine_checks.specs.Shown.{intervals_at}
use Rattle.affine_checks.proofs.parts.subscripts_meet.Given as goal

abbrev pub invariant-loop-e : goal.invariant-loop-e
invariant-loop-e l = let p = meets l.demand (scope_in l.sc) (intervals_at l.sc) in subscripts_hold p (exprs l.e-items) ≡ subscripts_hold p (exprs (drop l.e-index l.e-items))
