-- What an order does: stages, one after another. And how these may end over a shelf that can fail.
use Rattle.std.specs.Prelude.{◌≡◌, ◌⊎◌, ℕ, ◌≤◌, ◌<◌, List, [], ◌∷◌, ◌++◌, length, Option, Some, None, option_map, Result, Ok, Err}
use Rattle.edge.specs.Causes.{Rose}
use Rattle.edge.specs.Files.{file_of}
use Rattle.edge.specs.Shelf.{Told}
use Rattle.c_tree.specs.Fault.{Fault}
use Rattle.c_tree.specs.Inputs.{PlainInputs}
use Rattle.c_tree.specs.Plain.{PlainUnit}
use Rattle.command_line.specs.Lines.{limit_of}
use Rattle.command_line.specs.Orders.{Order, print, run_file, attempt, report, demo}
use Rattle.command_line.specs.declared.outcome.FileWord.{FileWord}
use Rattle.command_line.specs.declared.outcome.FileWord.TheVariants.{Source, File, Data, Flip}
use Rattle.command_line.specs.declared.outcome.Output.{Output}
use Rattle.command_line.specs.declared.outcome.Stop.{Stop}
use Rattle.command_line.specs.declared.outcome.Stop.TheVariants.{ReadFault, TooLong, NoMemory}
use Rattle.top_call.specs.Demos.{IsDemonstrated}
use Rattle.top_call.specs.Flips.{MeansFault, IsFlipWhy}
use Rattle.top_call.specs.Inputs.{IsMeant, IsDataWhy}
use Rattle.top_call.specs.Printed.{IsPrinted}
use Rattle.top_call.specs.Reports.{IsReported}
use Rattle.top_call.specs.Runs.{IsRun, IsTried}
use Rattle.top_call.specs.Sources.{Wanted, AnyText, AnySource, Accepts, IsSourceWhy}
use Rattle.top_call.specs.Whys.{Why, stop_for}

pub data Plan : Type 1 where
  -- load a file, and go on with its bytes
  load : (word : FileWord) (name : List ℕ) (next : List ℕ → Plan) → Plan
  -- ask what is at hand: go on with an answer of which this holds, or stop for such a reason
  ask : {A : Type 0} (answers : A → Type 0) (stops : Why → Type 0) (next : A → Plan) → Plan
  -- write a text of which this holds, and end so
  give : (is : Output → Type 0) → Plan

-- judge a text, of which this is wanted, and go on with its unit
abbrev pub judge : Wanted → List ℕ → (PlainUnit → Plan) → Plan
judge kind text next = ask (Accepts kind text) (IsSourceWhy kind text) next

-- read a data text by the head of a unit, and go on with its inputs
abbrev pub read : PlainUnit → List ℕ → (PlainInputs → Plan) → Plan
read head text next = ask (IsMeant head text) (IsDataWhy head text) next

-- read a flip text by the head of a unit, on its inputs, and go on with its fault
abbrev pub read_flip : PlainUnit → PlainInputs → List ℕ → (Option Fault → Plan) → Plan
read_flip head inputs text next = ask (MeansFault head inputs text) (IsFlipWhy head inputs text) (λ fault. next (Some fault))

-- the last stages
abbrev pub printing : PlainUnit → Plan
printing unit = give (IsPrinted unit)

abbrev pub reporting : PlainUnit → Plan
reporting unit = give (IsReported unit)

abbrev pub running : PlainUnit → PlainInputs → Option Fault → Plan
running unit inputs fault = give (IsRun unit inputs fault)

abbrev pub trying : PlainUnit → PlainInputs → Option Fault → Plan
trying unit inputs fault = give (IsTried unit inputs fault)

-- load the flip file, where there is one, read it by the head of the unit, and go on with its fault
abbrev pub on_flip : Option (List ℕ) → (PlainUnit → PlainInputs → Option Fault → Plan) → PlainUnit → PlainInputs → Plan
on_flip None next unit inputs = next unit inputs None
on_flip (Some flip) next unit inputs = load Flip flip (λ bytes. read_flip unit inputs bytes (next unit inputs))

-- load a data file, read it by the head of the unit, and go on with its inputs
abbrev pub on_data : List ℕ → (PlainUnit → PlainInputs → Plan) → PlainUnit → Plan
on_data input next unit = load Data input (λ bytes. read unit bytes (next unit))

abbrev pub plan_of : Order → Plan
plan_of (print source) = load Source source (λ text. judge AnySource text printing)
plan_of (run_file file input flip) = load File file (λ text. judge AnyText text (on_data input (on_flip flip running)))
plan_of (attempt source input flip) = load Source source (λ text. judge AnySource text (on_data input (on_flip flip trying)))
plan_of (report source) = load Source source (λ text. judge AnySource text reporting)
plan_of (demo number) = give (IsDemonstrated number)

-- ---- files, where they are told

abbrev pub Files : Type 0
Files = Option (List (List ℕ × List ℕ))

-- these are the bytes of that name
abbrev pub IsFile : Files → List ℕ → List ℕ → Type 0
IsFile None name bytes = Unit {0}
IsFile (Some files) name bytes = file_of files name ≡ Some bytes

-- no file has that name
abbrev pub IsAbsent : Files → List ℕ → Type 0
IsAbsent None name = Unit {0}
IsAbsent (Some files) name = file_of files name ≡ None

-- a file with that name is longer than the limit
abbrev pub IsTooLong : Files → List ℕ → ℕ → Type 0
IsTooLong None name limit = Unit {0}
IsTooLong (Some files) name limit = (bytes : List ℕ) × (limit < length bytes) × (file_of files name ≡ Some bytes)

-- ---- how a plan ends

-- By the files, whether the shelf's count rose, the names asked and the outcome. Want of memory may end it at each stage.
unfoldable pub Ends : Plan → Files → Type 0 → List (List ℕ) → Result Output Stop → Type 0
Ends (load word name next) files rose names outcome =
    ((names ≡ []) × (outcome ≡ Err NoMemory))
    ⊎ (((names ≡ name ∷ []) × (outcome ≡ Err (ReadFault word)) × rose)
    ⊎ (((names ≡ name ∷ []) × (outcome ≡ Err (TooLong word)) × IsTooLong files name (limit_of word))
    ⊎ ((bytes : List ℕ) × (rest : List (List ℕ)) × (length bytes ≤ limit_of word) × IsFile files name bytes × (names ≡ name ∷ rest) × Ends (next bytes) files rose rest outcome)))
Ends (ask {A} answers stops next) files rose names outcome =
    ((names ≡ []) × (outcome ≡ Err NoMemory))
    ⊎ (((why : Why) × stops why × (names ≡ []) × (outcome ≡ Err (stop_for why)))
    ⊎ ((answer : A) × answers answer × Ends (next answer) files rose names outcome))
Ends (give is) files rose names outcome =
    (names ≡ []) × (((output : Output) × is output × (outcome ≡ Ok output)) ⊎ (outcome ≡ Err NoMemory))

-- a shelf before and after a plan, and the plan's outcome
pub record Follows (plan : Plan) (before now : Told) (outcome : Result Output Stop) : Type 0 where
  pub files : now.files ≡ before.files
  pub later : before.faults ≤ now.faults
  pub names : List (List ℕ)
  pub asked : now.asked ≡ option_map (λ asked. asked ++ names) before.asked
  pub ends : Ends plan before.files (Rose before.faults now.faults) names outcome

-- The one way in which a plan ends over files that are told, where only absent files fail and there is memory. Over files
-- that aren't told, the ways.
unfoldable pub Defined : Plan → Files → Result Output Stop → Type 0
Defined (load word name next) files outcome =
    (IsAbsent files name × (outcome ≡ Err (ReadFault word)))
    ⊎ ((IsTooLong files name (limit_of word) × (outcome ≡ Err (TooLong word)))
    ⊎ ((bytes : List ℕ) × (length bytes ≤ limit_of word) × IsFile files name bytes × Defined (next bytes) files outcome))
Defined (ask {A} answers stops next) files outcome =
    ((why : Why) × stops why × (outcome ≡ Err (stop_for why)))
    ⊎ ((answer : A) × answers answer × Defined (next answer) files outcome)
Defined (give is) files outcome = (output : Output) × is output × (outcome ≡ Ok output)

-- every stage passes: each file is there and within its limit, and each question is answered
unfoldable pub Passes : Plan → Files → Type 0
Passes (load word name next) files = (bytes : List ℕ) × (length bytes ≤ limit_of word) × IsFile files name bytes × Passes (next bytes) files
Passes (ask {A} answers stops next) files = (answer : A) × answers answer × Passes (next answer) files
Passes (give is) files = Unit {0}

-- the stages before this load pass
unfoldable pub Reaches : Plan → Files → FileWord → Type 0
Reaches (load word name next) files at =
    (at ≡ word) ⊎ ((bytes : List ℕ) × (length bytes ≤ limit_of word) × IsFile files name bytes × Reaches (next bytes) files at)
Reaches (ask {A} answers stops next) files at = (answer : A) × answers answer × Reaches (next answer) files at
Reaches (give is) files at = ⊥

-- the names that a plan asks for, whatever the files hold, are these from the first on
abbrev pub AsksOnly : Plan → List (List ℕ) → Type 0
AsksOnly (load word name next) [] = ⊥
AsksOnly (load word name next) (first ∷ names) = (name ≡ first) × ((bytes : List ℕ) → AsksOnly (next bytes) names)
AsksOnly (ask {A} answers stops next) names = (answer : A) → AsksOnly (next answer) names
AsksOnly (give is) names = Unit {0}
