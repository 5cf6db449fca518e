use Rattle.std.proofs.Common.{refl}
use Rattle.c_tree.specs.Trees.{expr}
use Rattle.sites.proofs.Collecting.{assign_walked}
use Rattle.sites.proofs.collect.assignment.Goals as goal

pub returns : goal.returns
returns c =
    assign_walked (record { query = c.args.query; outers = c.args.outers; statement = c.args.next.item }) c.args.next (record { item = c.in_ok-item.item; variable = c.args.next.variable; site = c.in_ok-count.count.site }) c.in_ok-count.count
    (expr c.args.target.now) c.args.op (expr c.args.value.now) _ _ refl c.in_ok-count.ensures (c.in_ok-item.ensures, (refl, refl))
