use Rattle.std.proofs.Common.{ap, ◌∙◌}
use Rattle.std.proofs.lemmas.Result.{err_from_is_err_and}
use Rattle.acceptance.specs.Items.{lowest}
use Rattle.kernel_check.specs.Conditions.{judgement}
use Rattle.scopes.specs.Scopes.{declared_in}
use Rattle.kernel_check.proofs.Judged.{refused_here, at_check}
use Rattle.kernel_check.proofs.refusing.refuse_all.Goals as goal

pub returns-in_err-refuse : goal.returns-in_err-refuse
returns-in_err-refuse c =
    let p = err_from_is_err_and c.from_residual.result c.from_residual.ensures.1 in
    let judge = judgement (declared_in c.args.declared.now) in
    rw (p.1, p.2) (refused_here _ _ _ _ _ (c.loop-check.invariant.1 ∙ ap lowest (at_check judge c.args.checks.now c.loop-check.check-index _ c.loop-check-test.true)) c.in_err-refuse.ensures)
