use Rattle.std.proofs.Common.{◌+◌, List, ◌∷◌, drop, sym, ap, ◌∙◌}
use Rattle.std.proofs.lemmas.List.{at_drop_more, drop_all}
use Rattle.interp.specs.declared.slots.WordExpr.{WordExpr}
use Rattle.interp.specs.Subscripts.{row_major}
use Rattle.interp.specs.Values.{values_in}
use Rattle.interp.proofs.SignedSubscripts.{row_major_no_index, row_major_short}
use Rattle.interp.proofs.subscripts.number_by_list.Goals as goal

pub returns-in_default : goal.returns-in_default
returns-in_default c =
    let at = c.args.at.now in let ns = values_in c.args.values.now in
    let rows = c.loop-e.rows in let xs = c.loop-e.extents.now in let e = c.e-item.result in let i = c.loop-e.e-index in
    sym (row_major_no_index rows xs e (drop (i + 1) at) ns c.in_default.not-Index)
    ∙ ap (λ (e : WordExpr). row_major rows xs (e ∷ drop (i + 1) at) ns) c.e-item.is
    ∙ sym (at_drop_more (λ (l : List WordExpr). row_major rows xs l ns) at i e c.loop-e-test.true)
    ∙ c.loop-e.invariant

pub returns-in-len1-up-extents : goal.returns-in-len1-up-extents
returns-in-len1-up-extents c =
    let at = c.args.at.now in let ns = values_in c.args.values.now in
    let rows = c.loop-e.rows in let xs = c.loop-e.extents.now in let i = c.loop-e.e-index in
    sym (row_major_short rows xs ns c.in-len1-up-extents.len_at_least)
    ∙ sym (ap (λ (l : List WordExpr). row_major rows xs l ns) (drop_all i at c.loop-e-test.false))
    ∙ c.loop-e.invariant
