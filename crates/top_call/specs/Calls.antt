-- All that a call does: how it ends, and what it writes.
use Rattle.std.specs.Prelude.{◌≡◌, ◌⊎◌, ℕ, List, Option, Some, None, Result, Ok, Err}
use Rattle.edge.specs.Causes.{Rose}
use Rattle.edge.specs.Sink.{Held, appended, AppendsPart}
use Rattle.command_line.specs.Lines.{line_of, usage_line, write_line, memory_line}
use Rattle.top_call.specs.Met.{Met}
use Rattle.command_line.specs.Orders.{Order}
use Rattle.command_line.specs.Tried.{Tries}
use Rattle.top_call.specs.Plans.{plan_of, Follows}
use Rattle.command_line.specs.Statuses.{status_of, finish_status}
use Rattle.command_line.specs.declared.outcome.Output.{Output}
use Rattle.command_line.specs.declared.outcome.Stop.{Stop}
use Rattle.command_line.specs.declared.status.Status.{Status}
use Rattle.command_line.specs.declared.status.Status.TheVariants as status

-- a text that is there in full
pub record IsWritten (output : Output) (out_before out_now err_before err_now : Held) (ends : Status) : Type 0 where
  pub status : ends ≡ finish_status output.finish
  pub whole : out_now.bytes ≡ appended out_before.bytes output.text
  pub no_line : err_now ≡ err_before

-- a text that was cut by a fault
pub record IsCut (output : Output) (out_before out_now err_before err_now : Held) (ends : Status) : Type 0 where
  pub status : ends ≡ status.WriteFault
  pub rose : Rose out_before.faults out_now.faults
  pub part : AppendsPart out_before.bytes out_now.bytes output.text
  pub line : Tries err_before err_now write_line

-- the line of a cause, or that memory is wanting
abbrev pub IsTold : Order → Stop → Held → Held → Status → Type 0
IsTold order cause err_before err_now ends =
    ((ends ≡ status_of cause) × Tries err_before err_now (line_of order cause))
    ⊎ ((ends ≡ status.NoMemory) × Tries err_before err_now memory_line)

-- a refusal: nothing was written but a line
pub record IsRefused (order : Order) (cause : Stop) (out_before out_now err_before err_now : Held) (ends : Status) : Type 0 where
  pub unwritten : out_now ≡ out_before
  pub line : IsTold order cause err_before err_now ends

-- how an order ends after its stages
abbrev pub IsEnding : Order → Result Output Stop → Held → Held → Held → Held → Status → Type 0
IsEnding order (Ok output) out_before out_now err_before err_now ends =
    IsWritten output out_before out_now err_before err_now ends ⊎ IsCut output out_before out_now err_before err_now ends
IsEnding order (Err cause) out_before out_now err_before err_now ends = IsRefused order cause out_before out_now err_before err_now ends

-- what an order does: its stages, and its ending
pub record Answers (order : Order) (met : Met) (ends : Status) : Type 0 where
  pub outcome : Result Output Stop
  pub follows : Follows (plan_of order) met.shelf_before met.shelf outcome
  pub ending : IsEnding order outcome met.out_before met.out met.err_before met.err ends

-- words that order nothing: no file was asked for, and nothing was written but this line
pub record OnlyTells (text : List ℕ) (met : Met) : Type 0 where
  pub unread : met.shelf ≡ met.shelf_before
  pub unwritten : met.out ≡ met.out_before
  pub line : Tries met.err_before met.err text

-- The words may need memory to be read.
abbrev pub IsAnswer : Option Order → Met → Status → Type 0
IsAnswer None met ends = ((ends ≡ status.Usage) × OnlyTells usage_line met) ⊎ ((ends ≡ status.NoMemory) × OnlyTells memory_line met)
IsAnswer (Some order) met ends = Answers order met ends

-- what a call does
pub record IsCall (order : Option Order) (met : Met) (ends : Status) : Type 0 where
  pub answer : IsAnswer order met ends
