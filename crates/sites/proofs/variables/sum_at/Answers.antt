use Rattle.c_tree.specs.Trees.{expr}
use Rattle.sites.proofs.Renumbering.{stands_after}
use Rattle.sites.proofs.variables.sum_at.Goals as goal

pub returns-in-Some : goal.returns-in-Some
returns-in-Some c =
    stands_after c.args.v.now (expr c.args.e.now) c.in_ok-sum.field-0 c.in-Some.sum c.moved.result c.as_slice.result.now c.requires c.in_ok-sum.ensures.sum c.in-Some.is c.as_slice.ensures c.moved.ensures
