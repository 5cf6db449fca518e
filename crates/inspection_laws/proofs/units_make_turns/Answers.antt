use Rattle.inspection_laws.proofs.UnitTables.{units_make_tables, units_make_no_table}
use Rattle.inspection_laws.proofs.UnitTurns.{units_make_turns}
use Rattle.inspection_laws.proofs.units_make_turns.Goals as goal

pub returns-clause-turns : goal.returns-clause-turns
returns-clause-turns c = units_make_turns (record {
  go_on = c.passes_go_on.ensures.go_on;
  sites_go = c.passes_go_on.ensures.sites;
  at_writes = c.passes_go_on.ensures.at_writes;
  at_cells = c.passes_go_on.ensures.at_cells;
  count = c.passes_count.ensures.count;
  writes = c.passes_count.ensures.writes;
  targets = c.passes_count.ensures.targets;
  pieces = c.passes_count.ensures.pieces;
  counters = c.passes_count.ensures.units;
  tables = c.tables_hold_uses.ensures.several;
  kept = c.tables_count.ensures.kept;
  table_writes = c.tables_count.ensures.at_writes;
  table_cells = c.tables_count.ensures.at_cells;
}) c.passes_count.ensures.writes c.texts_turn.ensures.bodies c.texts_turn.ensures.prologues c.passes_go_on.ensures.unit_turns c.every_kept_unit_follows.ensures.totals

pub returns-clause-tables : goal.returns-clause-tables
returns-clause-tables c = units_make_tables (record {
  go_on = c.passes_go_on.ensures.go_on;
  sites_go = c.passes_go_on.ensures.sites;
  at_writes = c.passes_go_on.ensures.at_writes;
  at_cells = c.passes_go_on.ensures.at_cells;
  count = c.passes_count.ensures.count;
  writes = c.passes_count.ensures.writes;
  targets = c.passes_count.ensures.targets;
  pieces = c.passes_count.ensures.pieces;
  counters = c.passes_count.ensures.units;
  tables = c.tables_hold_uses.ensures.several;
  kept = c.tables_count.ensures.kept;
  table_writes = c.tables_count.ensures.at_writes;
  table_cells = c.tables_count.ensures.at_cells;
}) c.texts_turn.ensures.no_tables

pub returns-clause-no_tables : goal.returns-clause-no_tables
returns-clause-no_tables c = units_make_no_table c.texts_turn.ensures.no_tables
