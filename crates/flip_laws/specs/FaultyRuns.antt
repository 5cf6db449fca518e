-- What the run of an instrumented unit is under a fault, beside the source's run under the same fault.
use Rattle.std.specs.Prelude.{◌≡◌, ◌⊎◌, ℕ, ◌<◌, ◌≤◌, true, false, List, length, Option, Some, None}
use Rattle.c_tree.specs.Plain.{PlainUnit}
use Rattle.c_tree.specs.Arrays.{Memory, words_from, extents_at}
use Rattle.c_tree.specs.Accesses.{Access, at, is_of}
use Rattle.c_tree.specs.Fault.{Fault, Upset, upset_of, inverted}
use Rattle.c_tree.specs.Instances.{accesses, source_output}
use Rattle.c_tree.specs.Inputs.{PlainInputs, arrays_for, memory_for, Fit, IsSound}
use Rattle.c_tree.specs.Run.{plain, balanced, index, outside, judged, Ended, run}
use Rattle.c_tree.specs.Flips.{IsFaultFor}
use Rattle.run_laws.specs.Logs.{accesses_in, values_in}
use Rattle.instrumentation.specs.Guarded.{guarded}
use Rattle.instrumentation_laws.specs.UnitLaws.{differing, totals_over}
use Rattle.guard_laws.specs.Forms.{HasForms}
use Rattle.guard_laws.specs.IndexArrays.{is_index_array}
use Rattle.guard_laws.specs.Guards.{IsRead, InspectsNothing, EndsAtNoCheck, GuardsInDetail}
use Rattle.acceptance.specs.Sources.{IsAcceptedSource}

-- ---- steps

-- The source ends plain, and the unit makes its accesses with the same values and leaves the same arrays. The verdict names the arrays whose totals differ.
pub record TakesSameSteps (of_source of_unit : Ended) : Type 0 where
  pub source_ends : of_source.verdict ≡ plain
  pub events : of_unit.accesses ≡ of_source.accesses
  pub arrays : of_unit.arrays ≡ of_source.arrays
  pub verdict : of_unit.verdict ≡ judged (differing 0 of_unit.totals)

-- The source ends outside an array, and the unit at a check of an index of this, with the same accesses and arrays.
pub record EndsAtCheck (of_source of_unit : Ended) : Type 0 where
  pub array : ℕ
  pub source_ends : of_source.verdict ≡ outside array
  pub unit_ends : of_unit.verdict ≡ index array
  pub events : of_unit.accesses ≡ of_source.accesses
  pub arrays : of_unit.arrays ≡ of_source.arrays

-- So it is for all sound inputs, under every fault and without one.
abbrev pub TakesStepsOfSource : PlainUnit → PlainUnit → Type 0
TakesStepsOfSource source unit = (i : PlainInputs) (fault : Option Fault) → IsSound source i → TakesSameSteps (run source i fault) (run unit i fault) ⊎ EndsAtCheck (run source i fault) (run unit i fault)

-- no fault, one in no index array, or one that no read sees
abbrev pub KeepsIndices : PlainUnit → PlainInputs → Option Fault → Type 0
KeepsIndices source i None = Unit {0}
KeepsIndices source i (Some f) = (is_index_array source f.array ≡ false) ⊎ (¬ IsRead source i f)

-- Then the source ends plain, and places and cells are those of its list.
pub record MakesList (source : PlainUnit) (i : PlainInputs) (of_source of_unit : Ended) : Type 0 where
  pub steps : TakesSameSteps of_source of_unit
  pub made : accesses_in of_unit.accesses ≡ accesses source i.ints (memory_for source i)

abbrev pub MakesListOfSource : PlainUnit → PlainUnit → Type 0
MakesListOfSource source unit = (i : PlainInputs) (fault : Option Fault) → IsSound source i → KeepsIndices source i fault → MakesList source i (run source i fault) (run unit i fault)

-- ---- totals

-- Where the run doesn't end at a check, the unit's totals are those of the source's list and of the values of this very run, whatever the fault made of them.
abbrev pub HasTotalsOfRun : PlainUnit → PlainUnit → Type 0
HasTotalsOfRun source unit = (i : PlainInputs) (fault : Option Fault) → IsSound source i → EndsAtNoCheck (run unit i fault).verdict →
    (run unit i fault).totals ≡ totals_over (accesses source i.ints (memory_for source i)) (extents_at (arrays_for source i.ints)) (memory_for source i) (values_in (run unit i fault).accesses) 0 (arrays_for source i.ints)

-- ---- faults that no read sees

-- a write of the fault's cell stands at its place or later
pub record IsOverwritten (list : List Access) (f : Upset) : Type 0 where
  pub next : ℕ
  pub later : f.place ≤ next
  pub exists : next < length list
  pub of_cell : is_of (at list next) f.array f.cell ≡ true
  pub writes : (at list next).writes ≡ true

abbrev pub IsOverwrittenIn : List Access → Option Upset → Type 0
IsOverwrittenIn list None = ⊥
IsOverwrittenIn list (Some upset) = IsOverwritten list upset

-- in the source's accesses
abbrev pub IsWritten : PlainUnit → PlainInputs → Fault → Type 0
IsWritten source i f = IsOverwrittenIn (accesses source i.ints (memory_for source i)) (upset_of (arrays_for source i.ints) (Some f))

-- a memory with the one bit of the one cell inverted
abbrev pub inverted_at : Option Upset → Memory → Memory
inverted_at None m = m
inverted_at (Some upset) m = inverted upset m

-- Beside the run without a fault: the same accesses with the same values, and the same totals, which agree. The arrays are the source's output where the cell is written at the place or later, and else that output with the one bit inverted.
pub record ShowsNothing (source : PlainUnit) (i : PlainInputs) (f : Fault) (without faulty : Ended) : Type 0 where
  pub verdict : faulty.verdict ≡ balanced
  pub events : faulty.accesses ≡ without.accesses
  pub totals : faulty.totals ≡ without.totals
  pub written : IsWritten source i f → faulty.arrays ≡ words_from (source_output source i.ints (memory_for source i)) 0 (arrays_for source i.ints)
  pub unwritten : ¬ IsWritten source i f →
      faulty.arrays ≡ words_from (inverted_at (upset_of (arrays_for source i.ints) (Some f)) (source_output source i.ints (memory_for source i))) 0 (arrays_for source i.ints)

-- So it is for all sound inputs and every fault that isn't exposed.
abbrev pub HidesUnread : PlainUnit → PlainUnit → Type 0
HidesUnread source unit = (i : PlainInputs) (f : Fault) → IsSound source i → IsFaultFor source i f → ¬ IsRead source i f →
    ShowsNothing source i f (run unit i None) (run unit i (Some f))

-- ---- turns

-- the same turns before the source's statements and in them
pub record TurnsAlike (without faulty : Ended) : Type 0 where
  pub body : faulty.body_turns ≡ without.body_turns
  pub prologue : faulty.prologue_turns ≡ without.prologue_turns

-- For all sound inputs no fault changes the turns, where the run doesn't end at a check,
abbrev pub TurnsAsWithout : PlainUnit → PlainUnit → Type 0
TurnsAsWithout source unit = (i : PlainInputs) (fault : Option Fault) → IsSound source i → EndsAtNoCheck (run unit i fault).verdict → TurnsAlike (run unit i None) (run unit i fault)

-- and none changes the tables.
abbrev pub TablesAsWithout : PlainUnit → PlainUnit → Type 0
TablesAsWithout source unit = (i : PlainInputs) (fault : Option Fault) → IsSound source i → (run unit i fault).tables ≡ (run unit i None).tables

-- ---- together

-- The unit guards the source, and this is what each of its runs under a fault is.
pub record TellsOfFaults (source unit : PlainUnit) : Type 0 where
  pub detail : GuardsInDetail source unit
  pub steps : TakesStepsOfSource source unit
  pub list : MakesListOfSource source unit
  pub totals : HasTotalsOfRun source unit
  pub unread : HidesUnread source unit
  pub turns : TurnsAsWithout source unit
  pub tables : TablesAsWithout source unit

-- Each source that has these forms, whatever inputs fit, has such an instrumented unit.
abbrev pub ReadyTellOfFaults : Type 0
ReadyTellOfFaults = (u : PlainUnit) → ((i : PlainInputs) → Fit u i → HasForms u i) → TellsOfFaults u (guarded u)

-- So has every accepted source.
abbrev pub AcceptedTellOfFaults : Type 0
AcceptedTellOfFaults = (u : PlainUnit) → IsAcceptedSource u → TellsOfFaults u (guarded u)

-- Where no array is inspected no run ends at a check: under every fault the unit takes the steps of its source, over the source's list.
abbrev pub UninspectedTakeSteps : Type 0
UninspectedTakeSteps = (u : PlainUnit) (i : PlainInputs) (fault : Option Fault) → IsAcceptedSource u → InspectsNothing u → IsSound u i → MakesList u i (run u i fault) (run (guarded u) i fault)
