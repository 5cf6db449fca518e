use Rattle.guard_laws.proofs.Guarded.{guarded_in_detail}
use Rattle.guard_laws.proofs.ready_sources_are_guarded.Goals as goal

pub returns : goal.returns
returns c = λ u forms.
    guarded_in_detail c.regular_units_are_counted.ensures.guarded c.every_unit_follows.ensures.follows c.every_unit_follows.ensures.alike c.every_kept_unit_follows.ensures.leaves c.every_kept_unit_follows.ensures.totals
    c.every_kept_unit_balances.ensures c.every_kept_unit_tells.ensures c.kept_units_are_counted.ensures.counted c.kept_units_are_counted.ensures.go_on c.passes_go_on.ensures.turn c.passes_go_on.ensures.at_cells c.passes_count.ensures.units
    c.tables_hold_uses.ensures.units c.tables_end_exactly.ensures.several c.misses_are_accesses.ensures.tells c.misses_are_accesses.ensures.lie
    c.units_count.ensures.count c.units_count.ensures.go_on
    c.units_make_turns.ensures.turns c.units_make_turns.ensures.tables c.units_make_turns.ensures.no_tables
    c.every_quiet_text_ends.ensures c.every_text_follows.ensures c.every_kept_unit_follows.ensures.go_on c.passes_go_on.ensures.source_turns u forms
