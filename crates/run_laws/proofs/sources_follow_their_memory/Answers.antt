use Rattle.run_laws.proofs.Runs.{goes_through, runs_through}
use Rattle.run_laws.proofs.sources_follow_their_memory.Goals as goal

pub returns-clause-bodies : goal.returns-clause-bodies
returns-clause-bodies c = goes_through

pub returns-clause-units : goal.returns-clause-units
returns-clause-units c = runs_through
