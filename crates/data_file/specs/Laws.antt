-- Laws: a text gets an answer, and one alone, and what is written is read back.
use Rattle.std.specs.Prelude.{◌≡◌, ◌⊎◌, ℕ, ◌^◌, ◌<◌, not, true, nat_eq, List, length, FitsSigned, Result, Ok, Err}
use Rattle.std.specs.Int.{w64}
use Rattle.std.specs.List.{AllByRecursion}
use Rattle.c_tree.specs.declared.frame.Frame.{Frame}
use Rattle.c_tree.specs.declared.frame.Inputs.{Inputs}
use Rattle.data_file.specs.declared.refusal.DataRefusal.{DataRefusal}
use Rattle.data_file.specs.declared.refusal.DataRefusal.TheVariants.{OutOfMemory}
use Rattle.data_file.specs.Answers.{Answers, IsAnswered}
use Rattle.data_file.specs.Checks.{Fits}
use Rattle.data_file.specs.Conditions.{HasOwnNames, HasRows, names_in}
use Rattle.data_file.specs.Texts.{data_text}

-- A text gets one answer: it means one thing at most, and no two causes of refusals hold at once.
abbrev pub HasOneAnswer : Type 0
HasOneAnswer =
    (f : Frame) (text : List ℕ) (r s : Result Inputs DataRefusal) → HasOwnNames f → Answers f text r → Answers f text s
    → (r ≡ Err OutOfMemory → ⊥) → (s ≡ Err OutOfMemory → ⊥) → r ≡ s

-- Each text means inputs that fit, or is refused.
abbrev pub HasSomeAnswer : Type 0
HasSomeAnswer = (f : Frame) (text : List ℕ) → HasOwnNames f → IsAnswered f text

-- inputs that can be written: values of an i64, and at least one cell for each array, each below 2^64
pub record CanBeWritten (f : Frame) (i : Inputs) : Type 0 where
  pub rows : HasRows f i
  pub values : AllByRecursion (λ n. FitsSigned w64 n) i.ints
  pub cells : AllByRecursion (λ ns. (0 < length ns) × AllByRecursion (λ n. n < 2 ^ 64) ns) i.cells

-- no name has a line feed
abbrev pub HasNamesInLines : Frame → Type 0
HasNamesInLines f = AllByRecursion (λ x. AllByRecursion (λ b. not (nat_eq b 10) ≡ true) x) (names_in f)

-- The text that is written of inputs that fit gets no other answer than these inputs.
abbrev pub IsReadBack : Type 0
IsReadBack =
    (f : Frame) (i : Inputs) (r : Result Inputs DataRefusal) → HasOwnNames f → HasNamesInLines f → CanBeWritten f i → Fits f i
    → Answers f (data_text f i) (Ok i) × (Answers f (data_text f i) r → (r ≡ Ok i) ⊎ (r ≡ Err OutOfMemory))
