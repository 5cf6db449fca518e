use Rattle.data_file.proofs.SampleFrames.{samples}
use Rattle.data_file.proofs.samples_meet_conditions.Goals as goal

pub returns : goal.returns
returns c = samples
