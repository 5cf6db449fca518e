use Rattle.inspection_laws.proofs.Membership.{names_have_tables}
use Rattle.inspection_laws.proofs.UnitPieces.{units_count_from_tables, units_pieces_go_on}
use Rattle.inspection_laws.proofs.units_count.Goals as goal

pub returns-clause-count : goal.returns-clause-count
returns-clause-count c = units_count_from_tables (record {
  go_on = c.passes_go_on.ensures.go_on;
  sites_go = c.passes_go_on.ensures.sites;
  at_writes = c.passes_go_on.ensures.at_writes;
  at_cells = c.passes_go_on.ensures.at_cells;
  count = c.passes_count.ensures.count;
  writes = c.passes_count.ensures.writes;
  targets = c.passes_count.ensures.targets;
  pieces = c.passes_count.ensures.pieces;
  counters = c.passes_count.ensures.units;
  tables = c.tables_hold_uses.ensures.several;
  kept = c.tables_count.ensures.kept;
  table_writes = c.tables_count.ensures.at_writes;
  table_cells = c.tables_count.ensures.at_cells;
})

pub returns-clause-go_on : goal.returns-clause-go_on
returns-clause-go_on c = units_pieces_go_on (record {
  go_on = c.passes_go_on.ensures.go_on;
  sites_go = c.passes_go_on.ensures.sites;
  at_writes = c.passes_go_on.ensures.at_writes;
  at_cells = c.passes_go_on.ensures.at_cells;
  count = c.passes_count.ensures.count;
  writes = c.passes_count.ensures.writes;
  targets = c.passes_count.ensures.targets;
  pieces = c.passes_count.ensures.pieces;
  counters = c.passes_count.ensures.units;
  tables = c.tables_hold_uses.ensures.several;
  kept = c.tables_count.ensures.kept;
  table_writes = c.tables_count.ensures.at_writes;
  table_cells = c.tables_count.ensures.at_cells;
})

pub returns-clause-names : goal.returns-clause-names
returns-clause-names c = names_have_tables
