use Rattle.std.proofs.Common.{◌≡◌, ◌++◌, List, length, map, min, arith, sym, ap, ◌∙◌}
use Rattle.std.proofs.lemmas.List.{append-nil}
use Rattle.c_tree.specs.Plain.{PlainStmt}
use Rattle.c_tree.specs.Trees.{stmt}
use Rattle.table_builder.proofs.Fronts.{word_checks-past}
use Rattle.table_builder.proofs.walks.add_word_checks.Goals as goal

pub returns : goal.returns
returns c =
    let at = c.args.at.now in
    let extents = c.args.extents.now in
    let out : List PlainStmt = map stmt c.loop-dimension.out in
    let reached : c.loop-dimension.dimension ≡ min (length at) (length extents) = omega arith in
    sym (append-nil out) ∙ ap (λ (l : List PlainStmt). out ++ l) (sym (word_checks-past c.args.array c.loop-dimension.dimension at extents c.loop-dimension.dimension reached)) ∙ c.loop-dimension.invariant
