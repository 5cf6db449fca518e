-- Flips and the units whose frames they are read by.
use Rattle.std.specs.Prelude.{◌↔◌}
use Rattle.c_tree.specs.Flips.{fault_in, IsFaultFor}
use Rattle.c_tree.specs.Inputs.{PlainInputs, Fit}
use Rattle.c_tree.specs.Plain.{PlainUnit}
use Rattle.c_tree.specs.declared.frame.Frame.{Frame}
use Rattle.c_tree.specs.declared.run.Flip.{Flip}
use Rattle.data_file.specs.Frames.{IsFrameOf, carried}
use Rattle.fault_plan.specs.Answers.{FitsInputs}

-- On inputs that fit, a flip fits a unit exactly where it fits by the unit's frame.
abbrev pub FlipsFitUnits : Type 0
FlipsFitUnits = (u : PlainUnit) (f : Frame) (i : PlainInputs) (flip : Flip) → IsFrameOf u f → Fit u i → (FitsInputs f (carried i) flip ↔ IsFaultFor u i (fault_in flip))
