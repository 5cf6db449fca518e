use Rattle.std.proofs.lemmas.Result.{err_from_is_err_and}
use Rattle.c_tree.specs.Trees.{unit}
use Rattle.top_call.proofs.Plans.{follows_load, follows_stop, follows_judged, follows_refused, follows_given}
use Rattle.top_call.specs.Plans.{printing}
use Rattle.top_call.specs.Sources.{AnySource}
use Rattle.top_call.proofs.stages.print.Goals as goal

pub returns-in_err-text : goal.returns-in_err-text
returns-in_err-text g c =
    let p = err_from_is_err_and c.from_residual.result c.from_residual.ensures.1 in
    rw (p.1, p.2) (follows_stop _ _ _ _ _ _ c.in_err-text.ensures)

pub returns-in_err-kernel : goal.returns-in_err-kernel
returns-in_err-kernel g c =
    let p = err_from_is_err_and c.from_residual-in_err-kernel.result c.from_residual-in_err-kernel.ensures.1 in
    rw (p.1, p.2) (follows_load _ _ _ _ _ _ _ _ c.in_ok-text.ensures
    (follows_refused AnySource _ _ printing _ c.in_err-kernel.field-0.0 c.as_slice.ensures c.in_err-kernel.ensures))

pub returns : goal.returns
returns g c =
    follows_load _ _ _ _ _ _ _ _ c.in_ok-text.ensures
    (follows_judged AnySource _ _ printing _ _ (unit c.in_ok-kernel.kernel.unit) c.in_ok-kernel.kernel.frame _ c.as_slice.ensures c.in_ok-kernel.ensures
    (follows_given _ _ _ c.printed.ensures))
