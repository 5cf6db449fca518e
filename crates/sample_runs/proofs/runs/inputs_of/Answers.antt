use Rattle.std.proofs.Common.{subst}
use Rattle.c_tree.specs.Trees.{unit as tree}
use Rattle.c_tree.specs.declared.frame.Frame.{Frame}
use Rattle.data_file.specs.Answers.{MeansFitting}
use Rattle.interp.specs.Finished.{inputs_in}
use Rattle.sample_runs.proofs.runs.inputs_of.Goals as goal

pub returns-in-Ok-clause-fits : goal.returns-in-Ok-clause-fits
returns-in-Ok-clause-fits c =
    let unit = c.args.kernel.now in
    let meant = subst (λ (f : Frame). MeansFitting f c.args.data.now c.in-Ok.inputs) c.frame.ensures c.in-Ok.ensures in
    c.fits_as_meant.ensures (tree unit.unit) unit.frame c.args.data.now (inputs_in c.in-Ok.inputs) c.requires.of meant
