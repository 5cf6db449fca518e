use Rattle.std.proofs.Common.{◌≡◌, drop}
use Rattle.std.specs.List.{list_any}
use Rattle.c_tree.specs.Trees.{exprs}
use Rattle.acceptance.specs.Head.{list_of}
use Rattle.affine_checks.specs.Linear.{is_low}
use Rattle.affine_checks.specs.Shown.{intervals_at}
use Rattle.affine_checks.proofs.head.some_is_low.Given as goal

abbrev pub invariant-loop-e : goal.invariant-loop-e
invariant-loop-e l = let p = is_low (intervals_at l.sc) in list_any p (list_of (exprs l.e-items)) ≡ list_any p (list_of (exprs (drop l.e-index l.e-items)))
