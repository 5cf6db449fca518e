use Rattle.std.proofs.Common.{drop}
use Rattle.acceptance.specs.Head.{list_of}
use Rattle.c_tree.specs.Trees.{exprs}
use Rattle.sites.specs.Variables.{IsSum, variables_in}
use Rattle.sites.specs.Infos.{Front}
use Rattle.sites.proofs.subscripts.sums_at.Given as goal

abbrev pub invariant-loop-e : goal.invariant-loop-e
invariant-loop-e l = Front (λ a e. IsSum (variables_in l.v) e a) l.out (list_of (exprs l.e-items)) (list_of (exprs (drop l.e-index l.e-items)))
