-- Laws of the frames of a unit.
use Rattle.std.specs.Prelude.{◌≡◌, ℕ, List, Result}
use Rattle.acceptance.specs.Printed.{IsAcceptedPrinted}
use Rattle.acceptance.specs.Sources.{IsAcceptedSource}
use Rattle.c_tree.specs.Plain.{PlainUnit}
use Rattle.c_tree.specs.declared.frame.Frame.{Frame}
use Rattle.c_tree.specs.declared.frame.Inputs.{Inputs}
use Rattle.c_tree.specs.declared.run.Ended.{Ended}
use Rattle.data_file.specs.Answers.{Answers}
use Rattle.data_file.specs.Conditions.{IsFrame}
use Rattle.data_file.specs.Frames.{IsFrameOf}
use Rattle.data_file.specs.Texts.{output_text}
use Rattle.data_file.specs.declared.refusal.DataRefusal.{DataRefusal}
use Rattle.frame_laws.specs.Alike.{SayTheSame}

-- a frame of the unit, that data files are read by
pub record HasFrame (u : PlainUnit) : Type 0 where
  pub frame : Frame
  pub of : IsFrameOf u frame
  pub is : IsFrame frame

-- Each accepted unit has one,
abbrev pub SourcesHaveFrames : Type 0
SourcesHaveFrames = (u : PlainUnit) → IsAcceptedSource u → HasFrame u

abbrev pub PrintedHaveFrames : Type 0
PrintedHaveFrames = (u : PlainUnit) → IsAcceptedPrinted u → HasFrame u

-- all frames of a unit say the same,
abbrev pub OfOneUnit : Type 0
OfOneUnit = (u : PlainUnit) (f g : Frame) → IsFrameOf u f → IsFrameOf u g → SayTheSame f g

-- by frames that say the same a text gets the same answers,
abbrev pub ReadAlike : Type 0
ReadAlike = (f g : Frame) (text : List ℕ) (r : Result Inputs DataRefusal) → SayTheSame f g → Answers f text r → Answers g text r

-- and the end of a run the same output.
abbrev pub WriteAlike : Type 0
WriteAlike = (f g : Frame) (e : Ended) → SayTheSame f g → output_text f e ≡ output_text g e
