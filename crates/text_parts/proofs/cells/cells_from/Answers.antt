use Rattle.std.proofs.Common.{◌≡◌, ℕ, drop, ap, ◌∙◌, arith}
use Rattle.c_tree.specs.Trees.{exprs}
use Rattle.instrumentation.specs.Tables.{cells_of}
use Rattle.text_parts.proofs.cells.cells_from.Goals as goal

pub returns : goal.returns
returns c =
    let same : c.loop-dimension.dimension ≡ c.args.first = omega arith in
    c.loop-dimension.invariant.made ∙ ap (λ (j : ℕ). cells_of (exprs (drop j c.args.extents.now))) same
