use Rattle.std.proofs.Common.{ap, ◌∙◌}
use Rattle.c_tree.specs.Trees.{stmt, stmts, tests}
use Rattle.c_tree.proofs.Equations.{stmt-If}
use Rattle.sites.specs.Outers.{outers_in}
use Rattle.sites.proofs.Collecting.{choice_walked, walk_on, walk_none, all_walked}
use Rattle.sites.proofs.collect.+walk.Goals as goal

pub walk-returns-in_ok-between-in-If : goal.walk-returns-in_ok-between-in-If
walk-returns-in_ok-between-in-If t c =
    choice_walked c.args.q.now (outers_in c.args.outers.now) c.args.next c.in_ok-within-in-If.within c.in_ok-between-in-If.between (tests c.in-If.tests) (stmts c.in-If.then) (stmts c.in-If.other)
    (stmt c.args.s.now) _ _ _ c.walk_all-in-If-2.result (ap stmt c.in-If.is ∙ stmt-If c.in-If.tests c.in-If.then c.in-If.other)
    c.in_ok-within-in-If.ensures c.in_ok-between-in-If.ensures c.walk_all-in-If-2.ensures

pub walk_all-loop-s-preserved : goal.walk_all-loop-s-preserved
walk_all-loop-s-preserved t c new r h =
    c.loop-s.invariant new r (walk_on c.args.q.now (outers_in c.args.outers.now) c.loop-s.at c.in_ok-at.at c.as_slice-s-items.result.now c.loop-s.s-index c.s-item.result _ _ new r c.loop-s-test.true c.s-item.is c.in_ok-at.ensures h)

pub walk_all-returns : goal.walk_all-returns
walk_all-returns t c =
    all_walked c.args.q.now (outers_in c.args.outers.now) c.args.next c.loop-s.at c.as_slice-s-items.result.now c.args.body.now _ _ c.as_slice-s-items.ensures
    (c.loop-s.invariant _ c.loop-s.at (walk_none c.args.q.now (outers_in c.args.outers.now) c.loop-s.at c.as_slice-s-items.result.now c.loop-s.s-index _ c.loop-s-test.false))
