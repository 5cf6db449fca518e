-- Why a question stops a command: the refusals of its texts.
use Rattle.std.specs.Prelude.{ℕ, List}
use Rattle.c_tree.specs.declared.refusal.Refusal.{Refusal}
use Rattle.command_line.specs.declared.outcome.Stop.{Stop}
use Rattle.command_line.specs.declared.outcome.Stop.TheVariants.{ReadFault, TooLong, SourceRefused, DataRefused, FlipRefused, NoMemory}
use Rattle.fault_plan.specs.declared.refusal.FlipRefusal.{FlipRefusal}

pub data Why : Type 0 where
  -- a source text, or a printed one, is refused so
  of_source : (refusal : Refusal) → Why
  -- a data text is refused with these words
  of_data : (words : List ℕ) → Why
  -- a flip text is refused so
  of_flip : (refusal : FlipRefusal) → Why

abbrev pub stop_for : Why → Stop
stop_for (of_source refusal) = SourceRefused refusal
stop_for (of_data words) = DataRefused words
stop_for (of_flip refusal) = FlipRefused refusal

-- a cause by which a stage stops that asks a question
abbrev pub StopsFor : (Why → Type 0) → Stop → Type 0
StopsFor stops (SourceRefused refusal) = stops (of_source refusal)
StopsFor stops (DataRefused words) = stops (of_data words)
StopsFor stops (FlipRefused refusal) = stops (of_flip refusal)
StopsFor stops (ReadFault word) = ⊥
StopsFor stops (TooLong word) = ⊥
StopsFor stops NoMemory = Unit {0}
