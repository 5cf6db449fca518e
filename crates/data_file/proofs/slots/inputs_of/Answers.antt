use Rattle.std.proofs.Common.{◌≡◌, ◌∙◌, ◌++◌, ◌∷◌, [], Some, None, ap, Option}
use Rattle.data_file.specs.declared.row.Row.{Row}
use Rattle.data_file.specs.declared.row.Row.TheVariants.{Value, Cells}
use Rattle.data_file.specs.Reading.{inputs_from}
use Rattle.std.proofs.Common.{reverse, FitsSigned, w64, take, ◌-◌, to_z, of_z, ℤ, rules}
use Rattle.std.specs.Option.{option_to_list}
use Rattle.std.proofs.lemmas.Int.{to_z-of_z}
use Rattle.data_file.proofs.Filled.{no_row, a_value, a_row, all_taken}
use Rattle.data_file.proofs.slots.inputs_of.Goals as goal

pub returns-in-None : goal.returns-in-None
returns-in-None c =
    let e : c.loop-slot.slots.items ≡ c.pop.new.self.items ++ None ∷ [] = c.in-Some.ensures.items ∙ ap (λ (s : Option Row). c.pop.new.self.items ++ s ∷ []) c.in-None.is in
    no_row c.loop-slot.ints c.loop-slot.cells c.loop-slot.slots.items c.pop.new.self.items e c.loop-slot.invariant

pub loop-slot-preserved-in-Continue-1 : goal.loop-slot-preserved-in-Continue-1
loop-slot-preserved-in-Continue-1 c =
    let row : c.in-Some.slot ≡ Some (Value c.in-Some-Value.value) = cc in
    let e : c.loop-slot.slots.items ≡ c.pop.new.self.items ++ Some (Value c.in-Some-Value.value) ∷ [] = c.in-Some.ensures.items ∙ ap (λ (s : Option Row). c.pop.new.self.items ++ s ∷ []) row in
    let fits : FitsSigned w64 c.in-Some-Value.value = search rules in
    let same : to_z w64 (of_z w64 c.in-Some-Value.value) ≡ c.in-Some-Value.value = to_z-of_z w64 c.in-Some-Value.value fits in
    ap (λ z. inputs_from z c.loop-slot.cells (reverse c.pop.new.self.items)) (c.in_ok-push-in-Some-Value.ensures.ok ∙ ap (λ (z : ℤ). c.loop-slot.ints ++ z ∷ []) same)
    ∙ a_value c.loop-slot.ints c.loop-slot.cells c.loop-slot.slots.items c.pop.new.self.items c.in-Some-Value.value e c.loop-slot.invariant

pub loop-slot-preserved : goal.loop-slot-preserved
loop-slot-preserved c =
    let row : c.in-Some.slot ≡ Some (Cells c.in-Some-Cells.row) = cc in
    let e : c.loop-slot.slots.items ≡ c.pop.new.self.items ++ Some (Cells c.in-Some-Cells.row) ∷ [] = c.in-Some.ensures.items ∙ ap (λ (s : Option Row). c.pop.new.self.items ++ s ∷ []) row in
    ap (λ z. inputs_from c.loop-slot.ints z (reverse c.pop.new.self.items)) c.in_ok-push-in-Some-Cells.ensures.ok
    ∙ a_row c.loop-slot.ints c.loop-slot.cells c.loop-slot.slots.items c.pop.new.self.items c.in-Some-Cells.row e c.loop-slot.invariant

pub returns : goal.returns
returns c =
    let cases = rw c.in_default.is at c.pop.ensures.cases in
    let rest : c.pop.new.self.items ≡ [] = c.pop.ensures.rest ∙ ap (λ n. take (n - 1) c.loop-slot.slots.items) cases.0 in
    let all : c.loop-slot.slots.items ≡ [] = c.pop.ensures.items ∙ ap (λ o. c.pop.new.self.items ++ option_to_list o) c.in_default.is ∙ ap (λ z. z ++ []) rest in
    all_taken c.loop-slot.ints c.loop-slot.cells c.loop-slot.slots.items all c.loop-slot.invariant
