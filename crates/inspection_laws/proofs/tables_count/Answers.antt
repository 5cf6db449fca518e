use Rattle.inspection_laws.proofs.TablePieces.{tables_are_kept, writes_count_by_tables, cells_count_by_tables}
use Rattle.inspection_laws.proofs.tables_count.Goals as goal

pub returns-clause-kept : goal.returns-clause-kept
returns-clause-kept c = tables_are_kept

pub returns-clause-at_writes : goal.returns-clause-at_writes
returns-clause-at_writes c = writes_count_by_tables

pub returns-clause-at_cells : goal.returns-clause-at_cells
returns-clause-at_cells c = cells_count_by_tables
