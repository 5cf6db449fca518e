use Rattle.std.proofs.lemmas.Result.{err_from_is_err_and}
use Rattle.top_call.proofs.Plans.{follows_load, follows_stop, follows_judged, follows_refused, follows_read, follows_unread, fits_by, fits_frame_by}
use Rattle.top_call.specs.Plans.{read, running, on_data, on_flip}
use Rattle.top_call.specs.Sources.{AnyText}
use Rattle.top_call.specs.Stages.{frame_of, unit_of}
use Rattle.command_line.specs.Commands.{given}
use Rattle.command_line.specs.declared.outcome.FileWord.TheVariants.{Data}
use Rattle.top_call.proofs.stages.run_file.Goals as goal

pub returns-in_err-text : goal.returns-in_err-text
returns-in_err-text g c =
    let p = err_from_is_err_and c.from_residual.result c.from_residual.ensures.1 in
    rw (p.1, p.2) (follows_stop _ _ _ _ _ _ c.in_err-text.ensures)

pub returns-in_err-taken : goal.returns-in_err-taken
returns-in_err-taken g c =
    let p = err_from_is_err_and c.from_residual-in_err-taken.result c.from_residual-in_err-taken.ensures.1 in
    rw (p.1, p.2) (follows_load _ _ _ _ _ _ _ _ c.in_ok-text.ensures
    (follows_refused AnyText _ _ (on_data c.args.input.now (on_flip (given c.args.flip) running)) _ c.in_err-taken.field-0.0 c.as_slice.ensures c.in_err-taken.ensures))

pub returns-in_err-bytes : goal.returns-in_err-bytes
returns-in_err-bytes g c =
    let u = unit_of c.in_ok-taken.taken in
    let p = err_from_is_err_and c.from_residual-in_err-bytes.result c.from_residual-in_err-bytes.ensures.1 in
    rw (p.1, p.2) (follows_load _ _ _ _ _ _ _ _ c.in_ok-text.ensures
    (follows_judged AnyText _ _ (on_data c.args.input.now (on_flip (given c.args.flip) running)) _ _ u (frame_of c.in_ok-taken.taken) _ c.as_slice.ensures c.in_ok-taken.ensures
    (follows_stop Data _ (λ bytes. read u bytes (on_flip (given c.args.flip) running u)) _ _ _ c.in_err-bytes.ensures)))

pub returns-in_err-inputs : goal.returns-in_err-inputs
returns-in_err-inputs g c =
    let u = unit_of c.in_ok-taken.taken in
    let f = frame_of c.in_ok-taken.taken in
    let p = err_from_is_err_and c.from_residual-in_err-inputs.result c.from_residual-in_err-inputs.ensures.1 in
    rw (p.1, p.2) (follows_load _ _ _ _ _ _ _ _ c.in_ok-text.ensures
    (follows_judged AnyText _ _ (on_data c.args.input.now (on_flip (given c.args.flip) running)) _ _ u f _ c.as_slice.ensures c.in_ok-taken.ensures
    (follows_load Data _ (λ bytes. read u bytes (on_flip (given c.args.flip) running u)) _ _ _ _ _ c.in_ok-bytes.ensures
    (follows_unread AnyText u f _ _ _ (on_flip (given c.args.flip) running u) _ c.in_err-inputs.field-0.0 c.in_ok-taken.ensures.framed c.frame.ensures c.as_slice-2.ensures c.in_err-inputs.ensures))))

pub returns : goal.returns
returns g c =
    let u = unit_of c.in_ok-taken.taken in
    let f = frame_of c.in_ok-taken.taken in
    follows_load _ _ _ _ _ _ _ _ c.in_ok-text.ensures
    (follows_judged AnyText _ _ (on_data c.args.input.now (on_flip (given c.args.flip) running)) _ _ u f _ c.as_slice.ensures c.in_ok-taken.ensures
    (follows_load Data _ (λ bytes. read u bytes (on_flip (given c.args.flip) running u)) _ _ _ _ _ c.in_ok-bytes.ensures
    (follows_read AnyText u f _ _ _ (on_flip (given c.args.flip) running u) _ _ c.in_ok-inputs.inputs _ c.in_ok-taken.ensures.framed c.frame.ensures c.as_slice-2.ensures c.in_ok-inputs.ensures
    c.run_on.ensures)))

pub run_on-requires-clause-fits : goal.run_on-requires-clause-fits
run_on-requires-clause-fits g c =
    fits_by c.fits_as_meant.ensures AnyText (unit_of c.in_ok-taken.taken) (frame_of c.in_ok-taken.taken) _ _ c.in_ok-inputs.inputs c.in_ok-taken.ensures.framed c.frame.ensures c.in_ok-inputs.ensures

pub run_on-requires-clause-by_frame : goal.run_on-requires-clause-by_frame
run_on-requires-clause-by_frame g c = fits_frame_by (frame_of c.in_ok-taken.taken) _ _ c.in_ok-inputs.inputs c.frame.ensures c.in_ok-inputs.ensures
