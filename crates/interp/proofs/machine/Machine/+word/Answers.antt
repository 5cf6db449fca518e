use Rattle.std.proofs.Common.{◌≡◌, ℕ, List, Some, sym, ap, ◌∙◌}
use Rattle.interp.specs.declared.slots.WordExpr.{WordExpr}
use Rattle.interp.specs.Values.{values_in}
use Rattle.interp.specs.Places.{all_placed}
use Rattle.interp.specs.Machine.{went, counts_access, struck}
use Rattle.interp.specs.Subscripts.{signed_place}
use Rattle.interp.proofs.SignedSubscripts.{signed_loads}
use Rattle.interp.proofs.machine.Machine.+word.Goals as goal

pub cell-returns-in-Some : goal.cell-returns-in-Some
cell-returns-in-Some t c =
    let ps = all_placed c.args.scene.now.places.now in let ns = values_in c.args.scene.now.values in
    let here : signed_place ps c.args.array c.args.at.now ns ≡ Some c.in-Some.place =
    sym (ap (λ (l : List WordExpr). signed_place ps c.args.array l ns) c.as_slice.ensures) ∙ sym c.find_signed.ensures ∙ c.in-Some.is in
    signed_loads ps c.args.array c.args.at.now ns c.in-Some.place here c.args.self.now
    ∙ ap (λ (n : ℕ). went n (counts_access (struck c.args.self.now))) (sym c.load.ensures.value)
    ∙ ap (went c.load.result) (sym c.load.ensures.counts)
