-- What the stages of the code answer.
use Rattle.std.specs.Prelude.{◌≡◌, ◌⊎◌, ℕ, false, ◌≤◌, List, [], ◌∷◌, ◌++◌, length, option_map, Result, Ok, Err}
use Rattle.edge.specs.Causes.{Rose}
use Rattle.edge.specs.Shelf.{Told}
use Rattle.acceptance.specs.Trees.{IsSourceTree}
use Rattle.c_tree.specs.Grammar.Texts.{IsText}
use Rattle.c_tree.specs.Grammar.Tokens.{is_printed}
use Rattle.c_tree.specs.Plain.{PlainUnit}
use Rattle.c_tree.specs.Trees.{unit}
use Rattle.c_tree.specs.declared.frame.Frame.{Frame}
use Rattle.c_tree.specs.declared.frame.Inputs.{Inputs}
use Rattle.c_tree.specs.declared.refusal.Refusal.{Refusal}
use Rattle.c_tree.specs.declared.refusal.Refusal.TheVariants as refusal
use Rattle.data_file.specs.Answers.{IsRefused}
use Rattle.data_file.specs.Conditions.{IsFrame}
use Rattle.data_file.specs.Frames.{IsFrameOf}
use Rattle.data_file.specs.declared.refusal.DataRefusal.{DataRefusal}
use Rattle.data_file.specs.declared.refusal.DataRefusal.TheVariants as data_refusal
use Rattle.command_line.specs.DataRefusals.{data_refusal_text}
use Rattle.command_line.specs.Lines.{limit_of}
use Rattle.command_line.specs.declared.outcome.FileWord.{FileWord}
use Rattle.command_line.specs.declared.outcome.Stop.{Stop}
use Rattle.command_line.specs.declared.outcome.Stop.TheVariants.{ReadFault, TooLong, SourceRefused, DataRefused, FlipRefused, NoMemory}
use Rattle.fault_plan.specs.Answers.{IsRefused as IsRefusedFlip}
use Rattle.kernel_check.specs.Judging.{IsLowest}
use Rattle.top_call.specs.Plans.{IsFile, IsTooLong}
use Rattle.top_call.specs.Sources.{Wanted, judged_of, IsTakenUnit, Refuses, IsSourceWhy}
use Rattle.top_call.specs.Whys.{Why, of_source, of_data, of_flip, StopsFor}
use Rattle.top_call.specs.declared.runnable.Runnable.{Runnable}
use Rattle.top_call.specs.declared.runnable.Runnable.TheVariants as runnable

-- these names were asked for, and the shelf's files are as they were
pub record Asks (before now : Told) (names : List (List ℕ)) : Type 0 where
  pub files : now.files ≡ before.files
  pub later : before.faults ≤ now.faults
  pub asked : now.asked ≡ option_map (λ asked. asked ++ names) before.asked

-- one load
abbrev pub IsLoad : FileWord → List ℕ → Told → Told → Result (List ℕ) Stop → Type 0
IsLoad word name before now (Ok bytes) = Asks before now (name ∷ []) × (length bytes ≤ limit_of word) × IsFile before.files name bytes
IsLoad word name before now (Err (ReadFault w)) = Asks before now (name ∷ []) × (w ≡ word) × Rose before.faults now.faults
IsLoad word name before now (Err (TooLong w)) = Asks before now (name ∷ []) × (w ≡ word) × IsTooLong before.files name (limit_of word)
IsLoad word name before now (Err (SourceRefused why)) = ⊥
IsLoad word name before now (Err (DataRefused why)) = ⊥
IsLoad word name before now (Err (FlipRefused why)) = ⊥
IsLoad word name before now (Err NoMemory) = Asks before now []

-- ---- one text

-- the unit of a text that isn't printed
pub record IsSourceOf (text : List ℕ) (u : PlainUnit) : Type 0 where
  pub is_text : IsText text u
  pub plain : is_printed text ≡ false
  pub tree : IsSourceTree u

-- a unit that the command takes, with its frame
pub record IsFramed (wanted : Wanted) (u : PlainUnit) (f : Frame) : Type 0 where
  pub accepted : IsTakenUnit wanted u
  pub of : IsFrameOf u f
  pub is : IsFrame f

-- this unit, with its frame
pub record IsOwn (wanted : Wanted) (u v : PlainUnit) (f : Frame) : Type 0 where
  pub same : v ≡ u
  pub framed : IsFramed wanted v f

-- a unit of a text, with its frame
pub record IsTaken (wanted : Wanted) (text : List ℕ) (u : PlainUnit) (f : Frame) : Type 0 where
  pub is_text : IsText text u
  pub framed : IsFramed wanted u f

-- the unit that is run, and its frame
abbrev pub unit_of : Runnable → PlainUnit
unit_of (runnable.Source k) = unit k.unit
unit_of (runnable.Printed p) = unit p.unit

abbrev pub frame_of : Runnable → Frame
frame_of (runnable.Source k) = k.frame
frame_of (runnable.Printed p) = p.frame

-- why a unit isn't taken
abbrev pub IsUnitWhy : PlainUnit → Refusal → Type 0
IsUnitWhy u why = (why ≡ refusal.OutOfMemory) ⊎ IsLowest u (judged_of u) why

-- why a text isn't taken, unless memory is wanting
abbrev pub IsRefusedFor : Wanted → List ℕ → Refusal → Type 0
IsRefusedFor wanted text refusal.OutOfMemory = Unit {0}
IsRefusedFor wanted text why = Refuses wanted text why

-- the cause that this is
abbrev pub IsSourceStop : Wanted → List ℕ → Stop → Type 0
IsSourceStop wanted text cause = StopsFor (IsSourceWhy wanted text) cause

-- ---- one data text

-- the cause that a refusal of a data text is, or that memory is wanting
abbrev pub IsDataStop : Frame → DataRefusal → Stop → Type 0
IsDataStop f why cause = (cause ≡ NoMemory) ⊎ ((why ≡ data_refusal.OutOfMemory → ⊥) × (cause ≡ DataRefused (data_refusal_text f why)))

-- the reasons for which a data text is refused by a frame
abbrev pub IsFrameWhy : Frame → List ℕ → Why → Type 0
IsFrameWhy f text (of_source why) = ⊥
IsFrameWhy f text (of_data words) = (why : DataRefusal) × IsRefused f text why × (words ≡ data_refusal_text f why)
IsFrameWhy f text (of_flip why) = ⊥

-- ---- one flip text

-- the reasons for which a flip text is refused by a frame
abbrev pub IsFlipWhyBy : Frame → Inputs → List ℕ → Why → Type 0
IsFlipWhyBy f i text (of_source why) = ⊥
IsFlipWhyBy f i text (of_data words) = ⊥
IsFlipWhyBy f i text (of_flip why) = IsRefusedFlip f i text why
