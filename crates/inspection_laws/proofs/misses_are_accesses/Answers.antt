use Rattle.inspection_laws.proofs.Contracts as laws
use Rattle.inspection_laws.proofs.misses_are_accesses.Goals as goal

pub returns-clause-tells : goal.returns-clause-tells
returns-clause-tells c = laws.first_miss_tells

pub returns-clause-lie : goal.returns-clause-lie
returns-clause-lie c = laws.indices_lie_else
