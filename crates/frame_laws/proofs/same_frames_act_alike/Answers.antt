use Rattle.frame_laws.proofs.Outputs.{same_output}
use Rattle.frame_laws.proofs.Readings.{answers_by}
use Rattle.frame_laws.proofs.same_frames_act_alike.Goals as goal

pub returns-clause-read : goal.returns-clause-read
returns-clause-read c f g text r same = answers_by f g same text r

pub returns-clause-write : goal.returns-clause-write
returns-clause-write c = same_output
