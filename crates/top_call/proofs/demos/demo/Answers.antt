use Rattle.c_tree.specs.Inputs.{Fit}
use Rattle.c_tree.specs.Trees.{unit}
use Rattle.demo_kernels.specs.Kernels.{kernel_of}
use Rattle.interp.specs.Finished.{inputs_in}
use Rattle.top_call.specs.Sources.{AnySource}
use Rattle.top_call.proofs.DemoTexts.{read_of, summed_of}
use Rattle.top_call.proofs.Plans.{fault_by, fits_by}
use Rattle.top_call.proofs.demos.demo.Goals as goal

pub summed-requires-clause-fits : goal.summed-requires-clause-fits
summed-requires-clause-fits c =
    fits_by c.fits_as_meant.ensures AnySource (unit c.in_ok-kernel.kernel.unit) c.in_ok-kernel.kernel.frame _ _ c.in_ok-inputs.inputs c.in_ok-kernel.ensures.framed c.frame.ensures c.in_ok-inputs.ensures

pub summed-requires-clause-flip_fits : goal.summed-requires-clause-flip_fits
summed-requires-clause-flip_fits c =
    let u = unit c.in_ok-kernel.kernel.unit in
    let fit : Fit u (inputs_in c.in_ok-inputs.inputs) = fits_by c.fits_as_meant.ensures AnySource u c.in_ok-kernel.kernel.frame _ _ c.in_ok-inputs.inputs c.in_ok-kernel.ensures.framed c.frame.ensures c.in_ok-inputs.ensures in
    fault_by c.flips_fit_units.ensures AnySource u c.in_ok-kernel.kernel.frame _ _ c.in_ok-inputs.inputs c.in_ok-flip.flip c.in_ok-kernel.ensures.framed c.frame-2.ensures fit c.in_ok-flip.ensures

pub returns : goal.returns
returns c =
    let number = c.args.number in
    let u = unit c.in_ok-kernel.kernel.unit in
    let f = c.in_ok-kernel.kernel.frame in
    let read =
    read_of number c.in_ok-texts.texts u f c.frame.result.now c.frame-2.result.now c.in_ok-inputs.inputs c.in_ok-flip.flip c.as_slice.result.now c.as_slice-2.result.now c.as_slice-3.result.now
    c.in_ok-texts.ensures.texts c.as_slice.ensures c.as_slice-2.ensures c.as_slice-3.ensures c.frame.ensures c.frame-2.ensures c.in_ok-kernel.ensures c.in_ok-inputs.ensures c.in_ok-flip.ensures in
    summed_of c.one_unit.ensures c.trees_have_texts.ensures.source
    (record {
      one_answer = c.one_answer.ensures;
      some_answer = c.some_answer.ensures;
      alike = c.frames_say_the_same.ensures;
      read = c.same_frames_act_alike.ensures.read;
    })
    (record {
      one_answer = c.one_flip_answer.ensures;
      some_answer = c.some_flip_answer.ensures;
      alike = c.frames_say_the_same.ensures;
      as_frame = c.fits_as_frame.ensures;
      as_meant = c.fits_as_meant.ensures;
    })
    (kernel_of number) number (c.kernels_are_usable.ensures.usable number c.requires) number u f c.in_ok-inputs.inputs c.in_ok-flip.flip _ c.summed.result read c.summed.ensures
