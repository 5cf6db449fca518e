use Rattle.inspection_laws.proofs.Contracts as laws
use Rattle.inspection_laws.proofs.tables_hold_uses.Goals as goal

pub returns-clause-one : goal.returns-clause-one
returns-clause-one c = laws.tables_hold_uses

pub returns-clause-several : goal.returns-clause-several
returns-clause-several c = laws.all_tables_hold_uses

pub returns-clause-units : goal.returns-clause-units
returns-clause-units c = laws.units_build_all
