-- The number after a list of items, or that of the first at which a condition holds, with what there is too much of.
use Rattle.std.specs.Prelude.{◌≡◌, ◌+◌, ◌<◌, ◌^◌, length, ℕ, suc, List, [], ◌∷◌, Result, Ok, Err, Option, Some, None}
use Rattle.acceptance.specs.Items.{Item}
use Rattle.kernel_check.specs.declared.walk.Stop.{Stop}
use Rattle.kernel_check.specs.declared.walk.Stop.TheVariants.{Found, OutOfMemory}

abbrev pub met : Option ℕ → ℕ → Result ℕ (ℕ × ℕ) → Result ℕ (ℕ × ℕ)
met None n r = r
met (Some count) n r = Err (n, count)

abbrev pub scan : (Item → Option ℕ) → ℕ → List Item → Result ℕ (ℕ × ℕ)
scan f n [] = Ok n
scan f n (i ∷ more) = met (f i) n (scan f (suc n) more)

abbrev pub IsScan : Result ℕ (ℕ × ℕ) → Result ℕ Stop → Type 0
IsScan s (Ok m) = s ≡ Ok m
IsScan s (Err (Found i count)) = s ≡ Err (i, count)
IsScan s (Err OutOfMemory) = Unit {0}

-- the answer is that of the scan, where the numbers fit
abbrev pub Walked : (Item → Option ℕ) → ℕ → List Item → Result ℕ Stop → Type 0
Walked f n xs r = n + length xs < 2 ^ 31 → IsScan (scan f n xs) r

-- the answer at one item
abbrev pub IsMet : Option ℕ → ℕ → Result (Unit {0}) Stop → Type 0
IsMet o at (Ok done) = o ≡ None
IsMet o at (Err (Found i count)) = (i ≡ at) × (o ≡ Some count)
IsMet o at (Err OutOfMemory) = Unit {0}

-- the first item at which the condition holds, with what there is too much of
abbrev pub met_or : Option ℕ → ℕ → Option (ℕ × ℕ) → Option (ℕ × ℕ)
met_or None n r = r
met_or (Some count) n r = Some (n, count)

abbrev pub first_met : (Item → Option ℕ) → ℕ → List Item → Option (ℕ × ℕ)
first_met f n [] = None
first_met f n (i ∷ more) = met_or (f i) n (first_met f (suc n) more)
