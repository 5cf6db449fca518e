use Rattle.std.proofs.Common.{◌≡◌, ◌++◌, List, length, map, min, arith, sym, ap, ◌∙◌}
use Rattle.std.proofs.lemmas.List.{append-nil}
use Rattle.c_tree.specs.Plain.{PlainStmt}
use Rattle.c_tree.specs.Trees.{stmt}
use Rattle.body_builder.proofs.Fronts.{index_checks-past}
use Rattle.body_builder.proofs.body.add_index_checks.Goals as goal

pub returns : goal.returns
returns c =
    let at = c.args.at.now in
    let extents = c.args.extents.now in
    let out : List PlainStmt = map stmt c.loop-dimension.out in
    let reached : c.loop-dimension.dimension ≡ min (length at) (length extents) = omega arith in
    sym (append-nil out) ∙ ap (λ (l : List PlainStmt). out ++ l) (sym (index_checks-past c.args.array c.loop-dimension.next at extents c.loop-dimension.dimension reached)) ∙ c.loop-dimension.invariant.rest
