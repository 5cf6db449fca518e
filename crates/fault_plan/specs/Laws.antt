-- Laws: a text gets an answer, and one alone, and the text of a flip is read back.
use Rattle.std.specs.Prelude.{◌≡◌, ◌⊎◌, ℕ, ◌^◌, ◌<◌, List, slice_get, Some, Result, Ok, Err}
use Rattle.c_tree.specs.declared.frame.Frame.{Frame}
use Rattle.c_tree.specs.declared.frame.ArrayInfo.{ArrayInfo}
use Rattle.c_tree.specs.declared.frame.Inputs.{Inputs}
use Rattle.c_tree.specs.declared.run.Flip.{Flip}
use Rattle.data_file.specs.Checks.{Fits}
use Rattle.data_file.specs.Conditions.{HasOwnNames}
use Rattle.fault_plan.specs.Answers.{FitsInputs, Answers, IsAnswered}
use Rattle.fault_plan.specs.Meaning.{IsPiece}
use Rattle.fault_plan.specs.Texts.{flip_text}
use Rattle.fault_plan.specs.declared.refusal.FlipRefusal.{FlipRefusal}
use Rattle.fault_plan.specs.declared.refusal.FlipRefusal.TheVariants.{OutOfMemory}

-- A text gets one answer: it means one flip at most, and no two causes of refusals hold at once.
abbrev pub HasOneAnswer : Type 0
HasOneAnswer =
    (f : Frame) (i : Inputs) (text : List ℕ) (r s : Result Flip FlipRefusal) → HasOwnNames f → Answers f i text r → Answers f i text s
    → (r ≡ Err OutOfMemory → ⊥) → (s ≡ Err OutOfMemory → ⊥) → r ≡ s

-- Each text means a flip that fits, or is refused.
abbrev pub HasSomeAnswer : Type 0
HasSomeAnswer = (f : Frame) (i : Inputs) (text : List ℕ) → IsAnswered f i text

-- The text of a flip that fits, of an array whose name has no blank, gets no other answer than this flip.
abbrev pub IsReadBack : Type 0
IsReadBack =
    (f : Frame) (i : Inputs) (flip : Flip) (array : ArrayInfo) (r : Result Flip FlipRefusal) → HasOwnNames f → Fits f i → FitsInputs f i flip
    → flip.place < 2 ^ 64 → slice_get f.arrays flip.array ≡ Some array → IsPiece array.name.bytes
    → Answers f i (flip_text array.name.bytes flip) (Ok flip)
    × (Answers f i (flip_text array.name.bytes flip) r → (r ≡ Ok flip) ⊎ (r ≡ Err OutOfMemory))
