use Rattle.std.proofs.Common.{sym, subst}
use Rattle.c_tree.specs.Trees.{stmts, unit}
use Rattle.text_parts.specs.Small.{IsSmall}
use Rattle.inspector.proofs.OfUnit.{made_for, made_builds, made_initial, made_at_write}
use Rattle.inspector.proofs.inspection.inspect.Goals as goal

pub inspection-requires : goal.inspection-requires
inspection-requires c = subst (λ u. IsSmall (stmts u.body)) (sym c.unit.ensures) (c.accepted_sources_are_small.ensures (unit c.args.k.now.unit) c.requires.accepted)

pub returns-clause-made : goal.returns-clause-made
returns-clause-made c = made_for c.inspection.result c.unit.result.now c.args.k.now.unit c.args.array c.unit.ensures c.inspection.ensures

pub returns-clause-builds : goal.returns-clause-builds
returns-clause-builds c =
    made_builds c.accepted_sources_follow.ensures.forms c.tables_hold_uses.ensures.one c.tables_end_exactly.ensures.one c.passes_go_on.ensures.unit_turns c.passes_go_on.ensures.at_cells (unit c.args.k.now.unit) c.requires.accepted c.args.array c.requires.inspected c.inspection.result
    (made_for c.inspection.result c.unit.result.now c.args.k.now.unit c.args.array c.unit.ensures c.inspection.ensures)

pub returns-clause-counts_cells : goal.returns-clause-counts_cells
returns-clause-counts_cells c =
    made_initial c.accepted_sources_follow.ensures.forms c.tables_hold_uses.ensures.one c.tables_end_exactly.ensures.one c.passes_go_on.ensures.unit_turns c.passes_go_on.ensures.at_cells (unit c.args.k.now.unit) c.requires.accepted c.args.array c.requires.inspected c.inspection.result
    (made_for c.inspection.result c.unit.result.now c.args.k.now.unit c.args.array c.unit.ensures c.inspection.ensures)

pub returns-clause-counts_writes : goal.returns-clause-counts_writes
returns-clause-counts_writes c =
    made_at_write c.accepted_sources_follow.ensures.forms c.tables_hold_uses.ensures.one c.tables_end_exactly.ensures.one c.passes_go_on.ensures.unit_turns c.passes_go_on.ensures.at_cells (unit c.args.k.now.unit) c.requires.accepted c.args.array c.requires.inspected c.inspection.result
    (made_for c.inspection.result c.unit.result.now c.args.k.now.unit c.args.array c.unit.ensures c.inspection.ensures)
