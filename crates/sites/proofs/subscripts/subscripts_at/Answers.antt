use Rattle.std.proofs.Common.{List, ap}
use Rattle.acceptance.specs.Head.{list_of}
use Rattle.c_tree.specs.Names.{words}
use Rattle.c_tree.specs.Trees.{exprs}
use Rattle.c_tree.specs.declared.expr.Expr.{Expr}
use Rattle.sites.specs.Infos.{ShowsSubscript}
use Rattle.sites.specs.Variables.{variables_in}
use Rattle.sites.proofs.Fronts.{one_further, at_last, expr_left, exprs_left}
use Rattle.sites.proofs.subscripts.subscripts_at.Goals as goal

pub loop-e-preserved : goal.loop-e-preserved
loop-e-preserved c =
    one_further (ShowsSubscript (words c.args.arrays.now) (variables_in c.args.v.now)) _ _ _ _ _ _ _ c.loop-e.invariant
    (expr_left c.as_slice-e-items.result.now c.loop-e.e-index c.e-item.result c.loop-e-test.true c.e-item.is) c.in_ok-subscript.ensures c.in_ok-push.ensures.ok

pub returns : goal.returns
returns c =
    at_last (ShowsSubscript (words c.args.arrays.now) (variables_in c.args.v.now)) _ _ _ _ (ap (λ (es : List Expr). list_of (exprs es)) c.as_slice-e-items.ensures) c.loop-e.invariant
    (exprs_left c.as_slice-e-items.result.now c.loop-e.e-index c.loop-e-test.false)
