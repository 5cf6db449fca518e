use Rattle.std.proofs.lemmas.Result.{err_from_is_err_and}
use Rattle.c_tree.specs.Trees.{unit}
use Rattle.top_call.proofs.Plans.{follows_load, follows_stop, follows_judged, follows_refused, follows_read, follows_unread, fits_by, fits_frame_by}
use Rattle.top_call.specs.Plans.{read, trying, on_data, on_flip}
use Rattle.top_call.specs.Sources.{AnySource}
use Rattle.command_line.specs.Commands.{given}
use Rattle.command_line.specs.declared.outcome.FileWord.TheVariants.{Data}
use Rattle.top_call.proofs.stages.attempt.Goals as goal

pub returns-in_err-whole : goal.returns-in_err-whole
returns-in_err-whole g c =
    let p = err_from_is_err_and c.from_residual.result c.from_residual.ensures.1 in
    rw (p.1, p.2) (follows_stop _ _ _ _ _ _ c.in_err-whole.ensures)

pub returns-in_err-kernel : goal.returns-in_err-kernel
returns-in_err-kernel g c =
    let p = err_from_is_err_and c.from_residual-in_err-kernel.result c.from_residual-in_err-kernel.ensures.1 in
    rw (p.1, p.2) (follows_load _ _ _ _ _ _ _ _ c.in_ok-whole.ensures
    (follows_refused AnySource _ _ (on_data c.args.input.now (on_flip (given c.args.flip) trying)) _ c.in_err-kernel.field-0.0 c.as_slice.ensures c.in_err-kernel.ensures))

pub returns-in_err-bytes : goal.returns-in_err-bytes
returns-in_err-bytes g c =
    let u = unit c.in_ok-kernel.kernel.unit in
    let p = err_from_is_err_and c.from_residual-in_err-bytes.result c.from_residual-in_err-bytes.ensures.1 in
    rw (p.1, p.2) (follows_load _ _ _ _ _ _ _ _ c.in_ok-whole.ensures
    (follows_judged AnySource _ _ (on_data c.args.input.now (on_flip (given c.args.flip) trying)) _ _ u c.in_ok-kernel.kernel.frame _ c.as_slice.ensures c.in_ok-kernel.ensures
    (follows_stop Data _ (λ bytes. read u bytes (on_flip (given c.args.flip) trying u)) _ _ _ c.in_err-bytes.ensures)))

pub returns-in_err-inputs : goal.returns-in_err-inputs
returns-in_err-inputs g c =
    let u = unit c.in_ok-kernel.kernel.unit in
    let f = c.in_ok-kernel.kernel.frame in
    let p = err_from_is_err_and c.from_residual-in_err-inputs.result c.from_residual-in_err-inputs.ensures.1 in
    rw (p.1, p.2) (follows_load _ _ _ _ _ _ _ _ c.in_ok-whole.ensures
    (follows_judged AnySource _ _ (on_data c.args.input.now (on_flip (given c.args.flip) trying)) _ _ u f _ c.as_slice.ensures c.in_ok-kernel.ensures
    (follows_load Data _ (λ bytes. read u bytes (on_flip (given c.args.flip) trying u)) _ _ _ _ _ c.in_ok-bytes.ensures
    (follows_unread AnySource u f _ _ _ (on_flip (given c.args.flip) trying u) _ c.in_err-inputs.field-0.0 c.in_ok-kernel.ensures.framed c.frame.ensures c.as_slice-2.ensures c.in_err-inputs.ensures))))

pub returns : goal.returns
returns g c =
    let u = unit c.in_ok-kernel.kernel.unit in
    let f = c.in_ok-kernel.kernel.frame in
    follows_load _ _ _ _ _ _ _ _ c.in_ok-whole.ensures
    (follows_judged AnySource _ _ (on_data c.args.input.now (on_flip (given c.args.flip) trying)) _ _ u f _ c.as_slice.ensures c.in_ok-kernel.ensures
    (follows_load Data _ (λ bytes. read u bytes (on_flip (given c.args.flip) trying u)) _ _ _ _ _ c.in_ok-bytes.ensures
    (follows_read AnySource u f _ _ _ (on_flip (given c.args.flip) trying u) _ _ c.in_ok-inputs.inputs _ c.in_ok-kernel.ensures.framed c.frame.ensures c.as_slice-2.ensures c.in_ok-inputs.ensures
    c.try_on.ensures)))

pub try_on-requires-clause-fits : goal.try_on-requires-clause-fits
try_on-requires-clause-fits g c =
    fits_by c.fits_as_meant.ensures AnySource (unit c.in_ok-kernel.kernel.unit) c.in_ok-kernel.kernel.frame _ _ c.in_ok-inputs.inputs c.in_ok-kernel.ensures.framed c.frame.ensures c.in_ok-inputs.ensures

pub try_on-requires-clause-by_frame : goal.try_on-requires-clause-by_frame
try_on-requires-clause-by_frame g c = fits_frame_by c.in_ok-kernel.kernel.frame _ _ c.in_ok-inputs.inputs c.frame.ensures c.in_ok-inputs.ensures
