use Rattle.inspection_laws.proofs.Contracts as laws
use Rattle.inspection_laws.proofs.tables_end_exactly.Goals as goal

pub returns-clause-one : goal.returns-clause-one
returns-clause-one c = laws.tables_end_exactly

pub returns-clause-several : goal.returns-clause-several
returns-clause-several c = laws.all_tables_end_exactly
