-- The classes and sites of these units compute.
use Rattle.std.proofs.Common.{refl}
use Rattle.sites.proofs.laws.worked_sites.Goals as goal

pub returns-clause-old_cell_first : goal.returns-clause-old_cell_first
returns-clause-old_cell_first c = refl

pub returns-clause-reads_then_write : goal.returns-clause-reads_then_write
returns-clause-reads_then_write c = refl

pub returns-clause-statements : goal.returns-clause-statements
returns-clause-statements c = refl

pub returns-clause-items : goal.returns-clause-items
returns-clause-items c = refl

pub returns-clause-numbers : goal.returns-clause-numbers
returns-clause-numbers c = refl

pub returns-clause-variables : goal.returns-clause-variables
returns-clause-variables c = refl
