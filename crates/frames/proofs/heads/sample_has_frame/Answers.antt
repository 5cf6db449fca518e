use Rattle.frames.proofs.SampleFrame.{sample_is_good, sample_frame_of, sample_is_frame}
use Rattle.frames.proofs.heads.sample_has_frame.Goals as goal

pub returns-clause-good : goal.returns-clause-good
returns-clause-good c = sample_is_good

pub returns-clause-of : goal.returns-clause-of
returns-clause-of c = sample_frame_of

pub returns-clause-is : goal.returns-clause-is
returns-clause-is c = sample_is_frame
