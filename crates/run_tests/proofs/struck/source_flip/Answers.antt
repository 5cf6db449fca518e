use Rattle.std.proofs.Common.{subst}
use Rattle.c_tree.specs.Trees.{unit as tree}
use Rattle.c_tree.specs.declared.frame.Frame.{Frame}
use Rattle.fault_plan.specs.Answers.{FitsInputs}
use Rattle.interp.specs.Finished.{inputs_in}
use Rattle.run_tests.proofs.struck.source_flip.Goals as goal

pub returns-in-Ok : goal.returns-in-Ok
returns-in-Ok c =
    let source = c.args.kernel.now in
    let i = c.args.i.now in
    let flip = c.in-Ok.flip in
    let fits = (c.flips_fit_units.ensures (tree source.unit) source.frame (inputs_in i) flip c.requires.of.of c.requires.fits).0 (subst (λ (f : Frame). FitsInputs f i flip) c.frame.ensures c.in-Ok.ensures.fits) in
    record { array = fits.array; cell = fits.cell; bit = fits.bit }
