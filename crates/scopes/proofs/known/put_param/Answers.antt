use Rattle.std.proofs.Common.{OnOk, ap, sym, subst, ◌∙◌, ◌||◌, ℕ, true}
use Rattle.c_tree.specs.Trees.{param}
use Rattle.c_tree.specs.declared.unit.Param.{Param}
use Rattle.scopes.specs.Known.{known_at, IsPut, IsParamPut}
use Rattle.scopes.specs.declared.known.Known.{Known}
use Rattle.scopes.proofs.Lists.{counted}
use Rattle.scopes.proofs.known.put_param.Goals as goal

pub returns-in-Array : goal.returns-in-Array
returns-in-Array c =
    let put = c.put-in-Array in
    let y = c.in-Array.name.bytes in
    let old = c.args.table.now.entries in
    let marked : Known → ℕ → Known = λ k n. record k { array = true; constant = c.in-Array.constant || k.constant; extents = n } in
    let known = ap (λ (k : Known). marked k c.len.result) c.find-known-in-Array.ensures ∙ ap (marked (known_at old y)) (c.len.ensures ∙ sym (counted c.in-Array.extents)) in
    subst (λ (p : Param). OnOk put.result (IsParamPut old put.new.table.entries (param p))) (sym c.in-Array.is)
    (subst (λ (k : Known). OnOk put.result (IsPut old put.new.table.entries y k)) known put.ensures)
