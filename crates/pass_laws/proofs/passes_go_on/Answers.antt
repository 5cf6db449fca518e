use Rattle.pass_laws.proofs.Pieces.{passes_go_on, sites_go_on, passes_turn, writes_are_places, cells_are_places}
use Rattle.pass_laws.proofs.SourceTurns.{sources_turn, units_turn}
use Rattle.pass_laws.proofs.passes_go_on.Goals as goal

pub returns-clause-go_on : goal.returns-clause-go_on
returns-clause-go_on c = passes_go_on

pub returns-clause-sites : goal.returns-clause-sites
returns-clause-sites c = sites_go_on

pub returns-clause-turn : goal.returns-clause-turn
returns-clause-turn c = passes_turn

pub returns-clause-at_writes : goal.returns-clause-at_writes
returns-clause-at_writes c = writes_are_places

pub returns-clause-at_cells : goal.returns-clause-at_cells
returns-clause-at_cells c = cells_are_places

pub returns-clause-source_turns : goal.returns-clause-source_turns
returns-clause-source_turns c = sources_turn

pub returns-clause-unit_turns : goal.returns-clause-unit_turns
returns-clause-unit_turns c = units_turn
