use Rattle.std.proofs.Common.{◌≡◌, drop}
use Rattle.c_tree.specs.Trees.{tests}
use Rattle.acceptance.specs.Printed.{tests_fit}
use Rattle.scopes.specs.Scopes.{scope_in}
use Rattle.affine_checks.specs.Demands.{meets}
use Rattle.affine_checks.specs.Shown.{intervals_at}
use Rattle.affine_checks.proofs.parts.sides_meet.Given as goal

abbrev pub invariant-loop-a : goal.invariant-loop-a
invariant-loop-a l = let p = meets l.demand (scope_in l.sc) (intervals_at l.sc) in tests_fit p (tests l.a-items) ≡ tests_fit p (tests (drop l.a-index l.a-items))
