use Rattle.instrumentation_laws.proofs.ExactLists.{exact_lists}
use Rattle.instrumentation_laws.proofs.ExactRuns.{exact_follow}
use Rattle.instrumentation_laws.proofs.exact_sources_follow.Goals as goal

pub returns-clause-lists : goal.returns-clause-lists
returns-clause-lists c = exact_lists

pub returns-clause-runs : goal.returns-clause-runs
returns-clause-runs c = exact_follow
