use Rattle.std.proofs.lemmas.Result.{err_from_is_err_and}
use Rattle.interp.specs.Finished.{inputs_in}
use Rattle.top_call.proofs.Plans.{fault_by, follows_flip, follows_given, follows_load, follows_stop, follows_unflipped}
use Rattle.top_call.specs.Plans.{read_flip, running}
use Rattle.top_call.specs.Sources.{AnyText}
use Rattle.top_call.specs.Stages.{frame_of, unit_of}
use Rattle.command_line.specs.declared.outcome.FileWord.TheVariants.{Flip}
use Rattle.top_call.proofs.stages.run_flipped.Goals as goal

pub returns-in_err-text : goal.returns-in_err-text
returns-in_err-text g c =
    let u = unit_of c.args.taken.now in
    let i = inputs_in c.args.inputs in
    let p = err_from_is_err_and c.from_residual.result c.from_residual.ensures.1 in
    rw (p.1, p.2) (follows_stop Flip _ (λ bytes. read_flip u i bytes (running u i)) _ _ _ c.in_err-text.ensures)

pub returns-in_err-fault : goal.returns-in_err-fault
returns-in_err-fault g c =
    let u = unit_of c.args.taken.now in
    let i = inputs_in c.args.inputs in
    let p = err_from_is_err_and c.from_residual-in_err-fault.result c.from_residual-in_err-fault.ensures.1 in
    rw (p.1, p.2) (follows_load Flip _ (λ bytes. read_flip u i bytes (running u i)) _ _ _ _ _ c.in_ok-text.ensures
    (follows_unflipped AnyText u (frame_of c.args.taken.now) _ c.args.inputs _ _ (running u i) _ c.in_err-fault.field-0.0 c.requires.framed c.frame.ensures c.as_slice.ensures c.in_err-fault.ensures))

pub returns : goal.returns
returns g c =
    let u = unit_of c.args.taken.now in
    let i = inputs_in c.args.inputs in
    follows_load Flip _ (λ bytes. read_flip u i bytes (running u i)) _ _ _ _ _ c.in_ok-text.ensures
    (follows_flip AnyText u (frame_of c.args.taken.now) _ c.args.inputs _ _ (running u i) _ _ c.in_ok-fault.fault _ c.requires.framed c.frame.ensures c.as_slice.ensures c.in_ok-fault.ensures
    (follows_given _ _ _ c.ran.ensures))

pub ran-requires-clause-flip_fits : goal.ran-requires-clause-flip_fits
ran-requires-clause-flip_fits g c =
    fault_by c.flips_fit_units.ensures AnyText (unit_of c.args.taken.now) (frame_of c.args.taken.now) _ _ c.args.inputs c.in_ok-fault.fault c.requires.framed c.frame.ensures c.requires.fits c.in_ok-fault.ensures
