use Rattle.frames.proofs.Refusals.{source_is_good, printed_is_good}
use Rattle.frames.proofs.heads.heads_are_good.Goals as goal

pub returns-clause-sources : goal.returns-clause-sources
returns-clause-sources c = source_is_good

pub returns-clause-printed : goal.returns-clause-printed
returns-clause-printed c = printed_is_good
