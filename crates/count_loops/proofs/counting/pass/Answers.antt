use Rattle.std.proofs.Common.{sym, subst}
use Rattle.c_tree.specs.Trees.{stmts, unit}
use Rattle.text_parts.specs.Small.{IsSmall}
use Rattle.count_loops.proofs.Counted.{made_counts, made_for}
use Rattle.count_loops.proofs.Turning.{made_turns}
use Rattle.count_loops.proofs.counting.pass.Goals as goal

pub pass_text-requires : goal.pass_text-requires
pass_text-requires c = subst (λ u. IsSmall (stmts u.body)) (sym c.unit.ensures) (c.accepted_sources_are_small.ensures (unit c.args.k.now.unit) c.requires.accepted)

pub returns-clause-made : goal.returns-clause-made
returns-clause-made c = made_for c.pass_text.result c.unit.result.now c.args.k.now.unit c.args.array c.args.start c.unit.ensures c.pass_text.ensures

pub returns-clause-counts : goal.returns-clause-counts
returns-clause-counts c =
    made_counts c.passes_count.ensures.count c.passes_count.ensures.pieces c.passes_count.ensures.units (unit c.args.k.now.unit) (λ i fit. c.accepted_sources_follow.ensures.forms (unit c.args.k.now.unit) i c.requires.accepted fit)
    c.pass_text.result c.args.array c.args.start c.requires.uninspected c.requires.there
    (made_for c.pass_text.result c.unit.result.now c.args.k.now.unit c.args.array c.args.start c.unit.ensures c.pass_text.ensures)

pub returns-clause-turns : goal.returns-clause-turns
returns-clause-turns c =
    made_turns (unit c.args.k.now.unit) (c.accepted_sources_are_guarded.ensures (unit c.args.k.now.unit) c.requires.accepted).turns (λ i fit. c.accepted_sources_follow.ensures.forms (unit c.args.k.now.unit) i c.requires.accepted fit)
    c.pass_text.result c.args.array c.args.start c.requires.uninspected c.requires.there
    (made_for c.pass_text.result c.unit.result.now c.args.k.now.unit c.args.array c.args.start c.unit.ensures c.pass_text.ensures)
