use Rattle.frame_laws.proofs.Same.{of_one_unit}
use Rattle.frame_laws.proofs.frames_say_the_same.Goals as goal

pub returns : goal.returns
returns c = of_one_unit
