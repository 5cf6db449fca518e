use Rattle.std.proofs.Common.{◌≡◌, List, Some, sym, ap, ◌∙◌, subst}
use Rattle.interp.specs.declared.slots.WordExpr.{WordExpr}
use Rattle.interp.specs.Values.{values_in}
use Rattle.interp.specs.Places.{all_placed}
use Rattle.interp.specs.Machine.{Reached, Tells}
use Rattle.interp.specs.Subscripts.{signed_place}
use Rattle.interp.proofs.SignedSubscripts.{signed_stores}
use Rattle.interp.proofs.machine.Machine.assign_cell.Goals as goal

pub returns-in-Some : goal.returns-in-Some
returns-in-Some c =
    let ps = all_placed c.args.scene.now.places.now in let ns = values_in c.args.scene.now.values in
    let here : signed_place ps c.args.array c.args.at.now ns ≡ Some c.in-Some.place =
    sym (ap (λ (l : List WordExpr). signed_place ps c.args.array l ns) c.as_slice.ensures) ∙ sym c.find_signed.ensures ∙ c.in-Some.is in
    subst (λ (r : Reached (Unit {0})). Tells (λ u. u) c.assign_at.result c.assign_at.new.why c.assign_at.new.self r)
    (sym (signed_stores ps c.args.array c.args.at.now ns c.in-Some.place here c.args.op c.args.value.now c.args.self.now)) c.assign_at.ensures
