-- A value that clap gives for a name.
use Rattle.std.proofs.Common.{◌≡◌, ◌∙◌, ℕ, List, Option, Some, None, ap, sym, refl}
use Rattle.std.proofs.lemmas.Option.{same_Some}
use Rattle.std.specs.Option.{IsSome, option_map}
use Rattle.std.specs.Borrow.{Bor}

pub is_given : (value : Option (Bor (List ℕ))) (found : Option (List ℕ)) (name : List ℕ) → option_map (λ s. s.now) value ≡ found → found ≡ Some name → IsSome value
is_given None found name is has = absurd (cc)
is_given (Some word) found name is has = refl

pub given_is : (value : Option (Bor (List ℕ))) (word : Bor (List ℕ)) (found : Option (List ℕ)) (name : List ℕ)
    → value ≡ Some word → option_map (λ s. s.now) value ≡ found → found ≡ Some name → word.now ≡ name
given_is value word found name at is has = same_Some word.now name (ap (option_map (λ (s : Bor (List ℕ)). s.now)) (sym at) ∙ is ∙ has)
