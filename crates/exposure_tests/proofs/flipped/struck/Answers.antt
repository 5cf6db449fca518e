use Rattle.std.proofs.Common.{subst, sym}
use Rattle.c_tree.specs.Plain.{PlainUnit}
use Rattle.c_tree.specs.Trees.{unit as tree}
use Rattle.instrumentation.specs.Guarded.{guarded}
use Rattle.interp.specs.Finished.{inputs_in}
use Rattle.c_tree.specs.Flips.{fault_in, IsFaultFor}
use Rattle.exposure_tests.proofs.flipped.struck.Goals as goal

pub run-requires-clause-flip_fits : goal.run-requires-clause-flip_fits
run-requires-clause-flip_fits c =
    let h = c.requires.flip_fits in
    let made : IsFaultFor (guarded (tree c.args.kernel.now.unit)) (inputs_in c.args.i.now) (fault_in c.args.flip.now) = record { array = h.array; cell = h.cell; bit = h.bit } in
    subst (λ (u : PlainUnit). IsFaultFor u (inputs_in c.args.i.now) (fault_in c.args.flip.now)) (sym c.in_ok-made.ensures.made) made
