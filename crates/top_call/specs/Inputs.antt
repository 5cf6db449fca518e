-- What a data text means by the head of a unit, and how it is refused.
use Rattle.std.specs.Prelude.{◌≡◌, ℕ, List}
use Rattle.c_tree.specs.Inputs.{PlainInputs}
use Rattle.c_tree.specs.Plain.{PlainUnit}
use Rattle.c_tree.specs.declared.frame.Frame.{Frame}
use Rattle.data_file.specs.Answers.{IsRefused, MeansFitting}
use Rattle.data_file.specs.Conditions.{IsFrame}
use Rattle.data_file.specs.Frames.{IsFrameOf, carried}
use Rattle.data_file.specs.declared.refusal.DataRefusal.{DataRefusal}
use Rattle.command_line.specs.DataRefusals.{data_refusal_text}
use Rattle.top_call.specs.Whys.{Why, of_source, of_data, of_flip}

-- By the frame of the head the text means these inputs, and they fit.
pub record IsMeant (head : PlainUnit) (text : List ℕ) (inputs : PlainInputs) : Type 0 where
  pub frame : Frame
  pub of : IsFrameOf head frame
  pub is : IsFrame frame
  pub means : MeansFitting frame text (carried inputs)

-- By the frame of the head the text is refused, with these words.
pub record IsDataRefused (head : PlainUnit) (text words : List ℕ) : Type 0 where
  pub frame : Frame
  pub of : IsFrameOf head frame
  pub is : IsFrame frame
  pub why : DataRefusal
  pub refused : IsRefused frame text why
  pub written : words ≡ data_refusal_text frame why

-- the reasons for which it is refused
abbrev pub IsDataWhy : PlainUnit → List ℕ → Why → Type 0
IsDataWhy head text (of_source why) = ⊥
IsDataWhy head text (of_data words) = IsDataRefused head text words
IsDataWhy head text (of_flip why) = ⊥
