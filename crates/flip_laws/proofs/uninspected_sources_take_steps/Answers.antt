use Rattle.std.proofs.Common.{◌≡◌, ℕ, false, inl, Option, Some, None}
use Rattle.c_tree.specs.Plain.{PlainUnit}
use Rattle.c_tree.specs.Fault.{Fault}
use Rattle.c_tree.specs.Inputs.{PlainInputs}
use Rattle.guard_laws.specs.IndexArrays.{is_index_array}
use Rattle.flip_laws.specs.FaultyRuns.{KeepsIndices}
use Rattle.flip_laws.proofs.uninspected_sources_take_steps.Goals as goal

keeps : (u : PlainUnit) (i : PlainInputs) (fault : Option Fault) → ((a : ℕ) → is_index_array u a ≡ false) → KeepsIndices u i fault
keeps u i None none = tt
keeps u i (Some f) none = inl (none f.array)

pub returns : goal.returns
returns c = λ u i fault accepted nothing sound.
    (c.accepted_sources_tell_of_faults.ensures u accepted).list i fault sound (keeps u i fault (λ a. c.uninspected_sources_have_no_indices.ensures u a nothing))
