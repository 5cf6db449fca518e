use Rattle.std.proofs.Common.{◌≡◌, ◌+◌, ◌<◌, ◌≤◌, List, drop, length, min, map, sym, subst, ap, ◌∙◌, arith}
use Rattle.std.specs.Prelude.{IfOk}
use Rattle.c_tree.proofs.Equations.{expr-Lit}
use Rattle.c_tree.specs.Plain.{PlainExpr, bin}
use Rattle.c_tree.specs.Trees.{expr, exprs}
use Rattle.c_tree.specs.declared.expr.BinOp.TheVariants.{Add, Mul}
use Rattle.instrumentation.specs.Tables.{cells_of}
use Rattle.text_parts.proofs.Fronts.{row_of_past, row_of_more}
use Rattle.text_parts.proofs.cells.+row_from.Goals as goal

pub returns-in_ok-row : goal.returns-in_ok-row
returns-in_ok-row t c =
    let extents = c.args.extents.now in
    let at = c.args.at.now in
    let within : c.args.dimension < min (length extents) (length at) = omega arith in
    let first : PlainExpr = expr c.index-at-dimension.result in
    let rest : PlainExpr = expr c.in_ok-row.row in
    let cells : PlainExpr = cells_of (exprs (drop (c.args.dimension + 1) extents)) in
    subst (λ (w : PlainExpr). IfOk c.next_row.result (λ made. expr made ≡ w))
    (ap (λ (w : PlainExpr). bin Add (bin Mul first w) rest) c.in_ok-cells.ensures ∙ ap (λ (w : PlainExpr). bin Add (bin Mul first cells) w) c.in_ok-row.ensures ∙ sym (row_of_more extents at c.args.dimension c.index-at-dimension.result within c.index-at-dimension.is)) c.next_row.ensures

pub returns-else-dimension-shared_length : goal.returns-else-dimension-shared_length
returns-else-dimension-shared_length t c =
    let extents = c.args.extents.now in
    let at = c.args.at.now in
    let past : min (length extents) (length at) ≤ c.args.dimension = omega arith in
    expr-Lit 0 ∙ sym (row_of_past extents at c.args.dimension past)
