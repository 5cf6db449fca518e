-- What a flip text means by the head of a unit, on its inputs, and how it is refused.
use Rattle.std.specs.Prelude.{◌≡◌, ℕ, List}
use Rattle.c_tree.specs.Fault.{Fault}
use Rattle.c_tree.specs.Inputs.{PlainInputs}
use Rattle.c_tree.specs.Plain.{PlainUnit}
use Rattle.c_tree.specs.declared.frame.Frame.{Frame}
use Rattle.c_tree.specs.declared.run.Flip.{Flip}
use Rattle.data_file.specs.Conditions.{IsFrame}
use Rattle.data_file.specs.Frames.{IsFrameOf, carried}
use Rattle.fault_plan.specs.Answers.{IsRefused, MeansFitting}
use Rattle.c_tree.specs.Flips.{fault_in}
use Rattle.fault_plan.specs.declared.refusal.FlipRefusal.{FlipRefusal}
use Rattle.top_call.specs.Whys.{Why, of_source, of_data, of_flip}

-- By the frame of the head the text means a flip that fits the inputs, and this is its fault.
pub record MeansFault (head : PlainUnit) (inputs : PlainInputs) (text : List ℕ) (fault : Fault) : Type 0 where
  pub frame : Frame
  pub of : IsFrameOf head frame
  pub is : IsFrame frame
  pub flip : Flip
  pub means : MeansFitting frame (carried inputs) text flip
  pub same : fault ≡ fault_in flip

-- By the frame of the head the text is refused so.
pub record IsFlipRefused (head : PlainUnit) (inputs : PlainInputs) (text : List ℕ) (why : FlipRefusal) : Type 0 where
  pub frame : Frame
  pub of : IsFrameOf head frame
  pub is : IsFrame frame
  pub refused : IsRefused frame (carried inputs) text why

-- the reasons for which it is refused
abbrev pub IsFlipWhy : PlainUnit → PlainInputs → List ℕ → Why → Type 0
IsFlipWhy head inputs text (of_source why) = ⊥
IsFlipWhy head inputs text (of_data words) = ⊥
IsFlipWhy head inputs text (of_flip why) = IsFlipRefused head inputs text why
