-- The number of each status, and the status of each cause.
use Rattle.std.specs.Prelude.{ℕ, Result, Ok, Err}
use Rattle.command_line.specs.declared.status.Status.{Status}
use Rattle.command_line.specs.declared.status.Status.TheVariants as status
use Rattle.command_line.specs.declared.outcome.Finish.{Finish}
use Rattle.command_line.specs.declared.outcome.Finish.TheVariants as finish
use Rattle.command_line.specs.declared.outcome.Output.{Output}
use Rattle.command_line.specs.declared.outcome.Stop.{Stop}
use Rattle.command_line.specs.declared.outcome.Stop.TheVariants as stop

abbrev pub code_of : Status → ℕ
code_of status.Done = 0
code_of status.Reported = 1
code_of status.Usage = 2
code_of status.ReadFault = 3
code_of status.WriteFault = 4
code_of status.SourceRefused = 5
code_of status.DataRefused = 6
code_of status.FlipRefused = 7
code_of status.Outside = 8
code_of status.NoMemory = 9
code_of status.TooLong = 10

-- the status of a call that stops before it writes
abbrev pub status_of : Stop → Status
status_of (stop.ReadFault word) = status.ReadFault
status_of (stop.TooLong word) = status.TooLong
status_of (stop.SourceRefused refusal) = status.SourceRefused
status_of (stop.DataRefused why) = status.DataRefused
status_of (stop.FlipRefused refusal) = status.FlipRefused
status_of stop.NoMemory = status.NoMemory

-- the status of a call that has written its text
abbrev pub finish_status : Finish → Status
finish_status finish.Done = status.Done
finish_status finish.Reported = status.Reported
finish_status finish.Outside = status.Outside

-- the status of an outcome whose text is written whole
abbrev pub ideal_status : Result Output Stop → Status
ideal_status (Ok output) = finish_status output.finish
ideal_status (Err cause) = status_of cause
