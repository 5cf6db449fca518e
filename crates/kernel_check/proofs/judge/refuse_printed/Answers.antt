use Rattle.std.proofs.lemmas.Result.{err_from_is_err_and}
use Rattle.scopes.specs.Scopes.{declared_in}
use Rattle.kernel_check.proofs.Judged.{extents_narrow}
use Rattle.kernel_check.proofs.Wholes.{printed_names_refused, printed_extents_refused, kinds_judged}
use Rattle.kernel_check.proofs.judge.refuse_printed.Goals as goal

pub refuse_extents-requires : goal.refuse_extents-requires
refuse_extents-requires c = extents_narrow (declared_in c.args.declared.now) c.in_ok-refuse_all.ensures

pub returns-in_err-refuse_all : goal.returns-in_err-refuse_all
returns-in_err-refuse_all c =
    let p = err_from_is_err_and c.from_residual.result c.from_residual.ensures.1 in
    rw (p.1, p.2) (printed_names_refused (declared_in c.args.declared.now) c.in_err-refuse_all.field-0.0 c.in_err-refuse_all.ensures)

pub returns-in_err-refuse_extents : goal.returns-in_err-refuse_extents
returns-in_err-refuse_extents c =
    let p = err_from_is_err_and c.from_residual-in_err-refuse_extents.result c.from_residual-in_err-refuse_extents.ensures.1 in
    rw (p.1, p.2) (printed_extents_refused (declared_in c.args.declared.now) c.in_ok-refuse_all.ensures c.in_err-refuse_extents.field-0.0 c.in_err-refuse_extents.ensures)

pub returns : goal.returns
returns c = kinds_judged (declared_in c.args.declared.now) c.in_ok-refuse_all.ensures c.in_ok-refuse_extents.ensures c.refuse_all-2.result c.refuse_all-2.ensures
