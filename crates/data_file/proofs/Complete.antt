-- A text gets an answer.
use Rattle.std.proofs.Common.{◌≡◌, ℕ, zero, suc, ◌<◌, List, length, Bool, true, false, Option, Some, None, Result, Ok, Err, refl, ap, ◌∙◌, arith, ◌⊎◌, inl, inr}
use Rattle.std.specs.Str.Lines.{lines}
use Rattle.c_tree.specs.declared.frame.Frame.{Frame}
use Rattle.c_tree.specs.declared.frame.Inputs.{Inputs}
use Rattle.data_file.specs.declared.refusal.DataRefusal.TheVariants.{Syntax, OutOfRange, TooLarge, WrongCells}
use Rattle.data_file.specs.Answers.{IsAnswered}
use Rattle.data_file.specs.Checks.{NonePasses, FindsFirst, is_outside, is_too_large, has_wrong_cells, wanted_cells, given_cells}
use Rattle.data_file.specs.Conditions.{HasOwnNames}
use Rattle.data_file.specs.Meaning.{Means}
use Rattle.data_file.specs.Reading.{inputs_in}
use Rattle.data_file.proofs.Whole.{inputs_mean, bad_inputs}

-- whether one below n passes is found
found : (test : ℕ → Bool) (n : ℕ) → (o : Option ℕ) × FindsFirst test n o
found test zero = (None, λ k below. absurd (omega arith))
found test (suc n) = next (found test n) (test n) refl where
  cases_lt : (j m : ℕ) → j < suc m → (j < m) ⊎ (j ≡ m)
  cases_lt j m below = grind arith

  next : (o : Option ℕ) × FindsFirst test n o → (b : Bool) → test n ≡ b → (o : Option ℕ) × FindsFirst test (suc n) o
  next (Some k, first) b is = (Some k, record { below = let low = first.below in omega arith; passes = first.passes; first = first.first })
  next (None, none) true is = (Some n, record { below = omega arith; passes = is; first = none })
  next (None, none) false is = (None, λ k below. at k (cases_lt k n below)) where
    at : (k : ℕ) → (k < n) ⊎ (k ≡ n) → test k ≡ false
    at k (inl lower) = none k lower
    at k (inr same) = ap test same ∙ is

module _ (f : Frame) (own : HasOwnNames f) (text : List ℕ) where
  by_cells : (i : Inputs) → Means f text i → NonePasses (is_outside f i.ints) (length f.ints) → NonePasses (is_too_large f i.ints) (length f.arrays)
      → (o : Option ℕ) × FindsFirst (has_wrong_cells f i) (length f.arrays) o → IsAnswered f text
  by_cells i means within few (None, counted) = inl (i, record { means = means; fits = record { within = within; few = few; counted = counted } })
  by_cells i means within few (Some k, first) =
      inr (
        WrongCells k (wanted_cells f i.ints k) (given_cells i.cells k),
        record {
          answers = record { inputs = i; means = means; within = within; few = few; first = first; wants = refl; gives = refl };
          cause = λ e. let no : ⊥ = cc in no;
        },
      )

  by_size : (i : Inputs) → Means f text i → NonePasses (is_outside f i.ints) (length f.ints) → (o : Option ℕ) × FindsFirst (is_too_large f i.ints) (length f.arrays) o → IsAnswered f text
  by_size i means within (None, few) = by_cells i means within few (found (has_wrong_cells f i) (length f.arrays))
  by_size i means within (Some k, first) =
      inr (TooLarge k, record { answers = record { inputs = i; means = means; within = within; first = first }; cause = λ e. let no : ⊥ = cc in no })

  by_range : (i : Inputs) → Means f text i → (o : Option ℕ) × FindsFirst (is_outside f i.ints) (length f.ints) o → IsAnswered f text
  by_range i means (None, within) = by_size i means within (found (is_too_large f i.ints) (length f.arrays))
  by_range i means (Some k, first) =
      inr (OutOfRange k, record { answers = record { inputs = i; means = means; first = first }; cause = λ e. let no : ⊥ = cc in no })

  by_reading : (r : Result Inputs ℕ) → inputs_in f (lines text) ≡ r → IsAnswered f text
  by_reading (Ok i) e = by_range i (inputs_mean f own text i e) (found (is_outside f i.ints) (length f.ints))
  by_reading (Err n) e = inr (Syntax n, record { answers = bad_inputs f own text n e; cause = λ e. let no : ⊥ = cc in no })

  pub some_answer : IsAnswered f text
  some_answer = by_reading (inputs_in f (lines text)) refl
