use Rattle.std.proofs.Common.{List, ◌∷◌, drop, sym, ap, ◌∙◌}
use Rattle.std.proofs.lemmas.List.{at_drop_more}
use Rattle.interp.specs.declared.slots.WordExpr.{WordExpr}
use Rattle.interp.specs.Subscripts.{row_major}
use Rattle.interp.specs.Values.{values_in}
use Rattle.interp.proofs.SignedSubscripts.{row_major_no_index}
use Rattle.interp.proofs.subscripts.with_two_in_line.Goals as goal

pub returns-in_default : goal.returns-in_default
returns-in_default c =
    let at = c.args.at.now in let ns = values_in c.args.values.now in
    let rows = c.args.rows in let xs = c.args.extents.now in let e = c.first-item.result in
    sym (row_major_no_index rows xs e (drop 1 at) ns c.in_default.not-Index)
    ∙ ap (λ (e : WordExpr). row_major rows xs (e ∷ drop 1 at) ns) c.first-item.is
    ∙ sym (at_drop_more (λ (l : List WordExpr). row_major rows xs l ns) at 0 e c.in-len1-up.len_at_least)
