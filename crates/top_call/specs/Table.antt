-- The table of the statuses: for each, its cause, what it leaves on the output, and its line on the error stream.
use Rattle.std.specs.Prelude.{◌≡◌, ◌⊎◌, ℕ, List, [], ◌++◌, Option, Some, None, option_map, Result, Ok, Err}
use Rattle.edge.specs.Causes.{Rose}
use Rattle.edge.specs.Sink.{appended, AppendsPart}
use Rattle.c_tree.specs.declared.refusal.Refusal.{Refusal}
use Rattle.fault_plan.specs.declared.refusal.FlipRefusal.{FlipRefusal}
use Rattle.top_call.specs.Calls.{OnlyTells}
use Rattle.command_line.specs.Tried.{Tries}
use Rattle.command_line.specs.Lines.{line_of, usage_line, write_line, memory_line}
use Rattle.top_call.specs.Met.{Met, files_before}
use Rattle.command_line.specs.Orders.{Order, files_of}
use Rattle.top_call.specs.Plans.{plan_of, Defined, Passes, Reaches}
use Rattle.command_line.specs.Statuses.{finish_status, ideal_status}
use Rattle.command_line.specs.declared.outcome.FileWord.{FileWord}
use Rattle.command_line.specs.declared.outcome.Finish.{Finish}
use Rattle.command_line.specs.declared.outcome.Finish.TheVariants as finish
use Rattle.command_line.specs.declared.outcome.Output.{Output}
use Rattle.command_line.specs.declared.outcome.Stop.{Stop}
use Rattle.command_line.specs.declared.outcome.Stop.TheVariants as stop
use Rattle.command_line.specs.declared.status.Status.{Status}
use Rattle.command_line.specs.declared.status.Status.TheVariants.{Done, Reported, Usage, ReadFault, WriteFault, SourceRefused, DataRefused, FlipRefused, Outside, NoMemory, TooLong}

-- 0, 1, 8: the defined text stands whole on the output, and there is no line
pub record IsDone (order : Order) (how : Finish) (met : Met) : Type 0 where
  pub output : Output
  pub defined : Defined (plan_of order) (files_before met) (Ok output)
  pub finish : output.finish ≡ how
  pub whole : met.out.bytes ≡ appended met.out_before.bytes output.text
  pub no_line : met.err ≡ met.err_before

-- 3: the shelf failed at a load that the order reaches
pub record IsReadFault (order : Order) (met : Met) : Type 0 where
  pub word : FileWord
  pub rose : Rose met.shelf_before.faults met.shelf.faults
  pub reached : Reaches (plan_of order) (files_before met) word
  pub unwritten : met.out ≡ met.out_before
  pub line : Tries met.err_before met.err (line_of order (stop.ReadFault word))

-- 4: the output failed, and a prefix of the defined text stands there
pub record IsWriteFault (order : Order) (met : Met) : Type 0 where
  pub output : Output
  pub defined : Defined (plan_of order) (files_before met) (Ok output)
  pub rose : Rose met.out_before.faults met.out.faults
  pub part : AppendsPart met.out_before.bytes met.out.bytes output.text
  pub line : Tries met.err_before met.err write_line

-- 5, 6, 7, 10: a stage refuses
pub record IsStopped (order : Order) (cause : Stop) (met : Met) : Type 0 where
  pub defined : Defined (plan_of order) (files_before met) (Err cause)
  pub unwritten : met.out ≡ met.out_before
  pub line : Tries met.err_before met.err (line_of order cause)

-- 9: nothing was written but a line
pub record IsOutOfMemory (met : Met) : Type 0 where
  pub unwritten : met.out ≡ met.out_before
  pub line : Tries met.err_before met.err memory_line

-- why a call ends so
abbrev pub Cause : Option Order → Met → Status → Type 0
Cause None met Usage = OnlyTells usage_line met
Cause None met NoMemory = OnlyTells memory_line met
Cause None met _ = ⊥
Cause (Some order) met Done = IsDone order finish.Done met
Cause (Some order) met Reported = IsDone order finish.Reported met
Cause (Some order) met Usage = ⊥
Cause (Some order) met ReadFault = IsReadFault order met
Cause (Some order) met WriteFault = IsWriteFault order met
Cause (Some order) met SourceRefused = (refusal : Refusal) × IsStopped order (stop.SourceRefused refusal) met
Cause (Some order) met DataRefused = (why : List ℕ) × IsStopped order (stop.DataRefused why) met
Cause (Some order) met FlipRefused = (refusal : FlipRefusal) × IsStopped order (stop.FlipRefused refusal) met
Cause (Some order) met Outside = IsDone order finish.Outside met
Cause (Some order) met NoMemory = IsOutOfMemory met
Cause (Some order) met TooLong = (word : FileWord) × IsStopped order (stop.TooLong word) met

-- the file words of an order, and none where the words aren't in form
abbrev pub file_words : Option Order → List (List ℕ)
file_words None = []
file_words (Some order) = files_of order

-- the names asked are a prefix of the file words
pub record AsksInOrder (order : Option Order) (met : Met) : Type 0 where
  pub names : List (List ℕ)
  pub others : List (List ℕ)
  pub prefix : file_words order ≡ names ++ others
  pub asked : met.shelf.asked ≡ option_map (λ asked. asked ++ names) met.shelf_before.asked

-- no count of faults rose but maybe that of the error stream
pub record IsQuiet (met : Met) : Type 0 where
  pub shelf : Rose met.shelf_before.faults met.shelf.faults → ⊥
  pub out : Rose met.out_before.faults met.out.faults → ⊥

-- the status of how it ends, with the defined text whole on the output
pub record IsFulfilled (order : Order) (met : Met) (status : Status) : Type 0 where
  pub how : Finish
  pub status_is : status ≡ finish_status how
  pub done : IsDone order how met

-- Where the files are told, there and within their limits, the texts are accepted and no count rises, the defined text
-- stands whole on the output, unless memory is wanting.
abbrev pub IsComplete : Option Order → Met → Status → Type 0
IsComplete None met status = Unit {0}
IsComplete (Some order) met status =
    (files : List (List ℕ × List ℕ)) → files_before met ≡ Some files → Passes (plan_of order) (Some files) → IsQuiet met
    → IsFulfilled order met status ⊎ (status ≡ NoMemory)

-- Which counts must not rise for this outcome. An absent file is a fault whatever else fails, and a text that is refused
-- isn't written.
abbrev pub IsCalm : Result Output Stop → Met → Type 0
IsCalm (Ok output) met = IsQuiet met
IsCalm (Err (stop.ReadFault word)) met = Unit {0}
IsCalm (Err cause) met = Rose met.shelf_before.faults met.shelf.faults → ⊥

-- Over these files an ending is defined, and a call ends as any that is, unless a count rises or memory is wanting.
pub record HasEnding (order : Order) (files : List (List ℕ × List ℕ)) (met : Met) (status : Status) : Type 0 where
  pub ideal : Result Output Stop
  pub defined : Defined (plan_of order) (Some files) ideal
  pub ends :
      (outcome : Result Output Stop) → Defined (plan_of order) (Some files) outcome → IsCalm outcome met
      → (status ≡ ideal_status outcome) ⊎ (status ≡ NoMemory)

-- over files that are told
abbrev pub EndsAsDefined : Option Order → Met → Status → Type 0
EndsAsDefined None met status = Unit {0}
EndsAsDefined (Some order) met status =
    (files : List (List ℕ × List ℕ)) → files_before met ≡ Some files → HasEnding order files met status
