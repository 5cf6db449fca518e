-- The summary of a demonstration: what it tells of runs.
use Rattle.std.specs.Prelude.{◌≡◌, ℕ, Some, None}
use Rattle.c_tree.specs.Fault.{Fault}
use Rattle.c_tree.specs.Flips.{fault_in}
use Rattle.c_tree.specs.Inputs.{PlainInputs}
use Rattle.c_tree.specs.Plain.{PlainUnit}
use Rattle.c_tree.specs.Run as runs
use Rattle.c_tree.specs.declared.frame.Frame.{Frame}
use Rattle.c_tree.specs.declared.run.Ended.{Ended}
use Rattle.data_file.specs.Frames.{IsFrameOf}
use Rattle.demo_kernels.specs.Kernels.{inputs_of, kernel_of}
use Rattle.demo_kernels.specs.Summaries.{summary_text}
use Rattle.flip_laws.specs.FaultyRuns.{TellsOfFaults}
use Rattle.instrumentation.specs.Guarded.{guarded}
use Rattle.interp.specs.Finished.{IsEnded}
use Rattle.command_line.specs.declared.outcome.Finish.TheVariants.{Done}
use Rattle.command_line.specs.declared.outcome.Output.{Output}

-- How many accesses and turns a source makes on these inputs, and the verdicts of its instrumented unit without the fault and
-- with it. The unit guards the source, with all that is known of its runs under faults.
pub record IsSummary (number : ℕ) (source : PlainUnit) (inputs : PlainInputs) (fault : Fault) (output : Output) : Type 0 where
  pub ended : Ended
  pub is : IsEnded (runs.run source inputs None) ended
  pub unit : PlainUnit
  pub made : unit ≡ guarded source
  pub faults : TellsOfFaults source unit
  pub without : Ended
  pub without_is : IsEnded (runs.run unit inputs None) without
  pub flipped : Ended
  pub flipped_is : IsEnded (runs.run unit inputs (Some fault)) flipped
  pub frame : Frame
  pub of : IsFrameOf source frame
  pub text : output.text ≡ summary_text number ended.accesses ended.body_turns frame.arrays without.verdict flipped.verdict
  pub done : output.finish ≡ Done

-- that of the kernel of this number, with its inputs and its flip
abbrev pub IsDemonstrated : ℕ → Output → Type 0
IsDemonstrated number = IsSummary number (kernel_of number).unit (inputs_of number) (fault_in (kernel_of number).flip)
