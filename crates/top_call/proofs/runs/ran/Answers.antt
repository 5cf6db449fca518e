use Rattle.std.proofs.Common.{option_map, sym, subst}
use Rattle.std.specs.Prelude.{IfSome}
use Rattle.acceptance.specs.Runnable.{IsRunnable}
use Rattle.c_tree.specs.Plain.{PlainUnit}
use Rattle.c_tree.specs.Run as runs
use Rattle.c_tree.specs.declared.frame.Frame.{Frame}
use Rattle.data_file.specs.Conditions.{IsEndOf}
use Rattle.c_tree.specs.Flips.{fault_in, IsFaultFor}
use Rattle.interp.specs.Finished.{inputs_in, IsEnded}
use Rattle.top_call.specs.Stages.{frame_of, unit_of}
use Rattle.top_call.proofs.Shown.{ends_of, taken_runs}
use Rattle.top_call.proofs.runs.ran.Goals as goal

pub end_of-requires-clause-form : goal.end_of-requires-clause-form
end_of-requires-clause-form c = subst IsRunnable (sym c.unit.ensures) (taken_runs (unit_of c.args.taken.now) c.requires.framed.accepted)

pub end_of-requires-clause-flip_fits : goal.end_of-requires-clause-flip_fits
end_of-requires-clause-flip_fits c =
    subst (λ (u : PlainUnit). IfSome c.args.flip (λ f. IsFaultFor u (inputs_in c.args.inputs) (fault_in f.now))) (sym c.unit.ensures) c.requires.flip_fits

pub shown-requires : goal.shown-requires
shown-requires c =
    let u = unit_of c.args.taken.now in
    let i = inputs_in c.args.inputs in
    let fault = option_map (λ f. fault_in f.now) c.args.flip in
    let e = c.in_ok-ended.ended in
    let P : PlainUnit → Type 0 = λ v. IsEnded (runs.run v i fault) e in
    let Q : Frame → Type 0 = λ f. IsEndOf f e in
    subst Q (sym c.frame.ensures)
    (ends_of (frame_of c.args.taken.now) u i fault e (taken_runs u c.requires.framed.accepted) c.requires.framed.of (subst P c.unit.ensures c.in_ok-ended.ensures))
