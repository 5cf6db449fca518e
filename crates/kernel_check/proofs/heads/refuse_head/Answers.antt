use Rattle.std.proofs.lemmas.Result.{err_from_is_err_and}
use Rattle.scopes.specs.Scopes.{declared_in}
use Rattle.kernel_check.proofs.HeadLists.{head_refused}
use Rattle.kernel_check.proofs.heads.refuse_head.Goals as goal

pub returns-in_err-refuse_checks : goal.returns-in_err-refuse_checks
returns-in_err-refuse_checks c =
    let p = err_from_is_err_and c.from_residual.result c.from_residual.ensures.1 in
    rw (p.1, p.2) (head_refused (declared_in c.args.declared.now) c.in_err-refuse_checks.field-0.0 c.in_err-refuse_checks.ensures)
