use Rattle.instrumentation.proofs.RegularReads.{is_alone}
use Rattle.instrumentation.proofs.regular_reads_stand_alone.Goals as goal

pub returns : goal.returns
returns c = is_alone
