use Rattle.std.proofs.Common.{List, ap}
use Rattle.acceptance.specs.Head.{list_of}
use Rattle.c_tree.specs.Trees.{exprs}
use Rattle.c_tree.specs.declared.expr.Expr.{Expr}
use Rattle.sites.specs.Variables.{IsSum, variables_in}
use Rattle.sites.proofs.Fronts.{one_further, at_last, expr_left, exprs_left}
use Rattle.sites.proofs.subscripts.sums_at.Goals as goal

pub loop-e-preserved : goal.loop-e-preserved
loop-e-preserved c =
    one_further (λ a e. IsSum (variables_in c.args.v.now) e a) _ _ _ _ _ _ _ c.loop-e.invariant
    (expr_left c.as_slice-e-items.result.now c.loop-e.e-index c.e-item.result c.loop-e-test.true c.e-item.is) c.in_ok-sum_at.ensures c.in_ok-push.ensures.ok

pub returns : goal.returns
returns c =
    at_last (λ a e. IsSum (variables_in c.args.v.now) e a) _ _ _ _ (ap (λ (es : List Expr). list_of (exprs es)) c.as_slice-e-items.ensures) c.loop-e.invariant
    (exprs_left c.as_slice-e-items.result.now c.loop-e.e-index c.loop-e-test.false)
