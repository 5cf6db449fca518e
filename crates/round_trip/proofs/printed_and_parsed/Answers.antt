use Rattle.std.proofs.Common.{◌≡◌, ◌≤◌, ◌∙◌, length, subst, sym}
use Rattle.c_tree.specs.Grammar.Texts.{IsText}
use Rattle.c_tree.specs.Layout.{layout}
use Rattle.c_tree.specs.Trees.{unit}
use Rattle.round_trip.proofs.printed_and_parsed.Goals as goal

pub returns-in-Ok : goal.returns-in-Ok
returns-in-Ok c text d short =
    let u = unit c.args.unit.now in
    let same : c.as_slice.result.now ≡ layout u = c.as_slice.ensures.value ∙ c.in-Ok.ensures in
    c.parse.ensures.unit u (subst (λ t. length t ≤ 16777216) (sym same) short) (subst (λ t. IsText t u) (sym same) (c.layout_is_read.ensures text u d))
