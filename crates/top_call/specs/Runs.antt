-- The output of a run, of a unit and of a source's instrumented unit, with a fault or without: which properties it has,
-- whatever it is.
use Rattle.std.specs.Prelude.{◌≡◌, Option}
use Rattle.c_tree.specs.Fault.{Fault}
use Rattle.c_tree.specs.Grammar.Texts.{IsText}
use Rattle.c_tree.specs.Inputs.{PlainInputs}
use Rattle.c_tree.specs.Layout.{layout}
use Rattle.c_tree.specs.Plain.{PlainUnit}
use Rattle.c_tree.specs.Run as runs
use Rattle.c_tree.specs.Run.{End, plain, balanced, index, outside}
use Rattle.c_tree.specs.declared.frame.Frame.{Frame}
use Rattle.c_tree.specs.declared.run.Ended.{Ended}
use Rattle.acceptance.specs.Printed.{IsAcceptedPrinted, StoresNothingBefore}
use Rattle.data_file.specs.Frames.{IsFrameOf}
use Rattle.data_file.specs.Texts.{output_text}
use Rattle.flip_laws.specs.FaultyRuns.{TellsOfFaults}
use Rattle.instrumentation.specs.Guarded.{guarded}
use Rattle.interp.specs.Finished.{verdict_in, IsEnded}
use Rattle.top_call.specs.Printed.{HasHeadOf}
use Rattle.command_line.specs.declared.outcome.Finish.{Finish}
use Rattle.command_line.specs.declared.outcome.Finish.TheVariants.{Done, Reported, Outside}
use Rattle.command_line.specs.declared.outcome.Output.{Output}

-- how a command ends that has written the output of a run
abbrev pub finish_of : End → Finish
finish_of plain = Done
finish_of balanced = Done
finish_of (runs.fault arrays) = Reported
finish_of (index a) = Reported
finish_of (outside a) = Outside

-- the text and the finish of an output, by the end that it shows
pub record IsShown (f : Frame) (ended : Ended) (output : Output) : Type 0 where
  pub text : output.text ≡ output_text f ended
  pub finish : output.finish ≡ finish_of (verdict_in ended.verdict)

-- the output of the run of a unit under this fault, or without one, by its frame
pub record IsRun (unit : PlainUnit) (inputs : PlainInputs) (fault : Option Fault) (output : Output) : Type 0 where
  pub ended : Ended
  pub is : IsEnded (runs.run unit inputs fault) ended
  pub frame : Frame
  pub of : IsFrameOf unit frame
  pub text : output.text ≡ output_text frame ended
  pub finish : output.finish ≡ finish_of (runs.run unit inputs fault).verdict

-- The output of the run of a source's instrumented unit under this fault, or without one, by the source's frame. The unit's
-- layout is a text of it. It has the source's head, is accepted, stores into no array before it begins, and guards the source
-- in detail, with all that is known of its runs under faults.
pub record IsTried (source : PlainUnit) (inputs : PlainInputs) (fault : Option Fault) (output : Output) : Type 0 where
  pub unit : PlainUnit
  pub made : unit ≡ guarded source
  pub is_text : IsText (layout unit) unit
  pub head : HasHeadOf source unit
  pub accepted : IsAcceptedPrinted unit
  pub stores : StoresNothingBefore unit
  pub faults : TellsOfFaults source unit
  pub ended : Ended
  pub is : IsEnded (runs.run unit inputs fault) ended
  pub frame : Frame
  pub of : IsFrameOf source frame
  pub text : output.text ≡ output_text frame ended
  pub finish : output.finish ≡ finish_of (runs.run unit inputs fault).verdict
