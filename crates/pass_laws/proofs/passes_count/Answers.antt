use Rattle.pass_laws.proofs.Pieces.{passes_count, writes_are_by_targets, targets_are_known, pieces_are_by_targets, has_counters}
use Rattle.pass_laws.proofs.passes_count.Goals as goal

pub returns-clause-count : goal.returns-clause-count
returns-clause-count c = passes_count

pub returns-clause-writes : goal.returns-clause-writes
returns-clause-writes c = writes_are_by_targets

pub returns-clause-targets : goal.returns-clause-targets
returns-clause-targets c = targets_are_known

pub returns-clause-pieces : goal.returns-clause-pieces
returns-clause-pieces c = pieces_are_by_targets

pub returns-clause-units : goal.returns-clause-units
returns-clause-units c = has_counters
