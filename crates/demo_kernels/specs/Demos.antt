-- The texts of a demonstration, and what they are good for.
use Rattle.std.specs.Prelude.{◌≡◌, ◌≤◌, ℕ, length}
use Rattle.acceptance.specs.Sources.{IsAcceptedSource}
use Rattle.c_tree.specs.Inputs.{IsSound}
use Rattle.c_tree.specs.Layout.{layout}
use Rattle.data_file.specs.Answers.{MeansFitting}
use Rattle.data_file.specs.Frames.{IsFrameOf, carried}
use Rattle.fault_plan.specs.Answers.{MeansFitting as MeansFittingFlip}
use Rattle.c_tree.specs.Flips.{fault_in, IsFaultFor}
use Rattle.demo_kernels.specs.Kernels.{Kernel, kernel_data, kernel_flip, kernel_inputs, kernel_of}
use Rattle.demo_kernels.specs.declared.demo.Demo.{Demo}

-- the texts of this number: the layout of its kernel's unit, its inputs, and its flip
pub record IsDemo (number : ℕ) (demo : Demo) : Type 0 where
  pub source : demo.source ≡ layout (kernel_of number).unit
  pub inputs : demo.inputs ≡ kernel_data (kernel_of number) number
  pub flip : demo.flip ≡ kernel_flip (kernel_of number)

-- A kernel, with inputs drawn from a number on. The source is accepted, and its text is within the limit of such a file. The inputs are sound, and the
-- flip fits them. By the unit's frame the text of the inputs means these inputs, and that of the flip this flip.
pub record IsUsable (k : Kernel) (x : ℕ) : Type 0 where
  pub accepted : IsAcceptedSource k.unit
  pub short : length (layout k.unit) ≤ 262144
  pub frame : IsFrameOf k.unit k.frame
  pub sound : IsSound k.unit (kernel_inputs k x)
  pub fits : IsFaultFor k.unit (kernel_inputs k x) (fault_in k.flip)
  pub inputs_read : MeansFitting k.frame (kernel_data k x) (carried (kernel_inputs k x))
  pub flip_read : MeansFittingFlip k.frame (carried (kernel_inputs k x)) (kernel_flip k) k.flip
