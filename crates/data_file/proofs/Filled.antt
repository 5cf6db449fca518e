-- Slots, taken from the last.
use Rattle.std.proofs.Common.{◌≡◌, ℕ, List, [], ◌∷◌, ◌++◌, reverse, Option, Some, None, ℤ, sym, ap, ◌∙◌}
use Rattle.std.proofs.lemmas.List.{reverse-append}
use Rattle.c_tree.specs.declared.frame.Inputs.{Inputs}
use Rattle.data_file.specs.declared.row.Row.{Row}
use Rattle.data_file.specs.declared.row.Row.TheVariants.{Value, Cells}
use Rattle.data_file.specs.Reading.{Slots, inputs_from}

popped : (slots rest : Slots) (s : Option Row) → slots ≡ rest ++ s ∷ [] → reverse slots ≡ s ∷ reverse rest
popped slots rest s e = ap reverse e ∙ reverse-append rest (s ∷ [])

module _ (ints : List ℤ) (cells : List (List ℕ)) (slots rest : Slots) where
  pub no_row : {X : Option Inputs} → slots ≡ rest ++ None ∷ [] → inputs_from ints cells (reverse slots) ≡ X → None ≡ X
  unfolding inputs_from
  no_row e h = sym (ap (inputs_from ints cells) (popped slots rest None e)) ∙ h

  pub a_value : {X : Option Inputs} (n : ℤ) → slots ≡ rest ++ Some (Value n) ∷ [] → inputs_from ints cells (reverse slots) ≡ X → inputs_from (ints ++ n ∷ []) cells (reverse rest) ≡ X
  unfolding inputs_from
  a_value n e h = sym (ap (inputs_from ints cells) (popped slots rest (Some (Value n)) e)) ∙ h

  pub a_row : {X : Option Inputs} (ns : List ℕ) → slots ≡ rest ++ Some (Cells ns) ∷ [] → inputs_from ints cells (reverse slots) ≡ X → inputs_from ints (cells ++ ns ∷ []) (reverse rest) ≡ X
  unfolding inputs_from
  a_row ns e h = sym (ap (inputs_from ints cells) (popped slots rest (Some (Cells ns)) e)) ∙ h

pub all_taken : {X : Option Inputs} (ints : List ℤ) (cells : List (List ℕ)) (slots : Slots) → slots ≡ [] → inputs_from ints cells (reverse slots) ≡ X → Some (record { ints = ints; cells = cells }) ≡ X
unfolding inputs_from
all_taken ints cells slots e h = sym (ap (λ z. inputs_from ints cells (reverse z)) e) ∙ h
