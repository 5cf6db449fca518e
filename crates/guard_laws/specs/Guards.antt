-- What an instrumented unit is worth: its runs beside those of its source, without a fault and with one.
use Rattle.std.specs.Prelude.{◌≡◌, ◌≢◌, ◌↔◌, ◌⊎◌, ℕ, ◌<◌, true, false, nat_eq, List, [], ◌∷◌, length, Option, Some, None}
use Rattle.std.specs.List.{list_any}
use Rattle.c_tree.specs.Plain.{PlainUnit}
use Rattle.c_tree.specs.Trees.{stmts_of}
use Rattle.c_tree.specs.Values.{Vars}
use Rattle.c_tree.specs.Arrays.{words_from, extents_at, vars_of}
use Rattle.c_tree.specs.Accesses.{Access, at, Within}
use Rattle.c_tree.specs.Fault.{Fault, Upset, upset_of, Exposed}
use Rattle.c_tree.specs.Instances.{accesses, source_output}
use Rattle.c_tree.specs.Inputs.{PlainInputs, arrays_for, memory_for, Fit, IsClean, IsSound}
use Rattle.c_tree.specs.Run.{State, Outcome, goes_on, ends, exec_all, End, plain, balanced, fault as faulty, index, outside, Reports, Ended, started, run, turns}
use Rattle.c_tree.specs.Flips.{IsFaultFor}
use Rattle.run_laws.specs.Logs.{values_in}
use Rattle.instrumentation.specs.Passes.{Target, pass_text}
use Rattle.instrumentation.specs.Pieces.{initial_piece, site_pieces_all, piece_at, builds}
use Rattle.instrumentation.specs.Guarded.{arrays_with_extents, extents_of, guarded}
use Rattle.instrumentation_laws.specs.Setting.{scope_of, inspected_in}
use Rattle.instrumentation_laws.specs.UnitLaws.{RunsAlike, RunsBeside, EndOutside, totals_over}
use Rattle.instrumentation_laws.specs.RegularUnits.{number_for, wides_for}
use Rattle.instrumentation_laws.specs.KeptUnits.{IsKeptUnit}
use Rattle.pass_laws.specs.Countable.{AllHaveNoCells}
use Rattle.pass_laws.specs.Going.{GoesTo, Turned}
use Rattle.pass_laws.specs.Places.{IsPlace}
use Rattle.inspection_laws.specs.UnitTurns.{MakesTurns, tables_for}
use Rattle.guard_laws.specs.Forms.{HasForms}
use Rattle.guard_laws.specs.IndexArrays.{is_index_array}

-- ---- without a fault

-- For all sound inputs of the source the unit ends balanced, with the source's output.
abbrev pub EndsBalanced : PlainUnit → PlainUnit → Type 0
EndsBalanced source unit = (i : PlainInputs) → IsSound source i →
    ((run unit i None).verdict ≡ balanced) × ((run unit i None).arrays ≡ words_from (source_output source i.ints (memory_for source i)) 0 (arrays_for source i.ints))

-- It makes the accesses of the source's run, with the same values.
abbrev pub MakesSameAccesses : PlainUnit → PlainUnit → Type 0
MakesSameAccesses source unit = (i : PlainInputs) → IsSound source i → (run unit i None).accesses ≡ (run source i None).accesses

-- Its totals are those of the source's accesses and of the values that the run reads and writes, modulo 2^128.
abbrev pub HasTotals : PlainUnit → PlainUnit → Type 0
HasTotals source unit = (i : PlainInputs) → IsSound source i →
    (run unit i None).totals ≡ totals_over (accesses source i.ints (memory_for source i)) (extents_at (arrays_for source i.ints)) (memory_for source i) (values_in (run unit i None).accesses) 0 (arrays_for source i.ints)

-- ---- with a fault

abbrev pub IsExposed : List Access → Option Upset → Type 0
IsExposed list None = ⊥
IsExposed list (Some upset) = Exposed list upset

-- the first access of the fault's cell at its place or later exists and is a read, in the source's accesses
abbrev pub IsRead : PlainUnit → PlainInputs → Fault → Type 0
IsRead source i f = IsExposed (accesses source i.ints (memory_for source i)) (upset_of (arrays_for source i.ints) (Some f))

-- For all sound inputs and every such fault the unit reports exactly where the cell's next access is a read.
abbrev pub ReportsExactly : PlainUnit → PlainUnit → Type 0
ReportsExactly source unit = (i : PlainInputs) (f : Fault) → IsSound source i → IsFaultFor source i f → Reports (run unit i (Some f)).verdict ↔ IsRead source i f

-- Where the array of the fault is no index array, it then names this array alone.
abbrev pub NamesTheArray : PlainUnit → PlainUnit → Type 0
NamesTheArray source unit = (i : PlainInputs) (f : Fault) → IsSound source i → IsFaultFor source i f → is_index_array source f.array ≡ false →
    IsRead source i f → (run unit i (Some f)).verdict ≡ faulty (f.array ∷ [])

-- a run ended at a check, or names arrays of which this is one
abbrev pub TellsOfArray : ℕ → End → Type 0
TellsOfArray a plain = ⊥
TellsOfArray a balanced = ⊥
TellsOfArray a (faulty arrays) = list_any (nat_eq a) arrays ≡ true
TellsOfArray a (index b) = Unit {0}
TellsOfArray a (outside b) = ⊥

-- Where it is an index array, the unit then ends so.
abbrev pub TellsOfIndexArrays : PlainUnit → PlainUnit → Type 0
TellsOfIndexArrays source unit = (i : PlainInputs) (f : Fault) → IsSound source i → IsFaultFor source i f → is_index_array source f.array ≡ true →
    IsRead source i f → TellsOfArray f.array (run unit i (Some f)).verdict

-- A fault that no read sees leaves it balanced, whatever its array.
abbrev pub StaysBalanced : PlainUnit → PlainUnit → Type 0
StaysBalanced source unit = (i : PlainInputs) (f : Fault) → IsSound source i → IsFaultFor source i f → ¬ IsRead source i f → (run unit i (Some f)).verdict ≡ balanced

-- ---- inputs that fit, sound or not, under every fault

-- no array is inspected
abbrev pub InspectsNothing : PlainUnit → Type 0
InspectsNothing source = (a : ℕ) → inspected_in (number_for source) source.body a ≡ false

-- Then the unit runs as the source does: it makes the same accesses with the same values, leaves the same arrays, and ends as the source does, its totals deciding where that ends plain.
abbrev pub RunsAsSource : PlainUnit → PlainUnit → Type 0
RunsAsSource source unit = (i : PlainInputs) (fault : Option Fault) → Fit source i → InspectsNothing source → RunsAlike (run source i fault) (run unit i fault)

-- Where the source leaves its arrays, both end outside the same one.
abbrev pub EndsOutsideAlike : PlainUnit → PlainUnit → Type 0
EndsOutsideAlike source unit = (i : PlainInputs) (fault : Option Fault) → Fit source i → ¬ IsClean source i → InspectsNothing source → EndOutside (run source i fault) (run unit i fault)

-- the state in which a run ends
abbrev pub state_of : Outcome (Unit {0}) → State
state_of (goes_on u s) = s
state_of (ends e s) = s

abbrev pub last_state : PlainUnit → PlainInputs → Option Fault → State
last_state u i fault = state_of (exec_all (scope_of (arrays_for u i.ints) u.wides (upset_of (arrays_for u i.ints) fault)) u.body (vars_of u.params i.ints) (started u (memory_for u i)))

-- an access of this array lies outside its extents, in the source's list
pub record LeavesArray (source : PlainUnit) (i : PlainInputs) (a : ℕ) : Type 0 where
  pub position : ℕ
  pub exists : position < length (accesses source i.ints (memory_for source i))
  pub of_array : (at (accesses source i.ints (memory_for source i)) position).array ≡ a
  pub outside : ¬ Within (extents_at (arrays_for source i.ints) a) (at (accesses source i.ints (memory_for source i)) position).cell

-- The run ends before the source's statements begin, as outside of such an array or at a check of an index of it.
pub record EndsBefore (source unit : PlainUnit) (i : PlainInputs) (fault : Option Fault) : Type 0 where
  pub begun : (last_state unit i fault).begun ≡ false
  pub array : ℕ
  pub ends : ((run unit i fault).verdict ≡ outside array) ⊎ ((run unit i fault).verdict ≡ index array)
  pub leaves : LeavesArray source i array

-- Or they begin, and it makes the same accesses as the source's run with the same values, leaves the same arrays, and ends as that does or, where this ends outside an inspected array, at a check of an index of it.
pub record RunsOn (source unit : PlainUnit) (i : PlainInputs) (fault : Option Fault) : Type 0 where
  pub begun : (last_state unit i fault).begun ≡ true
  pub beside : RunsBeside (inspected_in (number_for source) source.body) (run source i fault) (run unit i fault)

-- So it is for all inputs that fit.
abbrev pub RunsOnOrEnds : PlainUnit → PlainUnit → Type 0
RunsOnOrEnds source unit = (i : PlainInputs) (fault : Option Fault) → Fit source i → EndsBefore source unit i fault ⊎ RunsOn source unit i fault

-- the source ends outside an array, and the unit outside it or at a check of an index of it, with the same accesses and arrays
pub record EndsOutsideOrIndex (of_source of_unit : Ended) : Type 0 where
  pub array : ℕ
  pub source_ends : of_source.verdict ≡ outside array
  pub ends : (of_unit.verdict ≡ outside array) ⊎ (of_unit.verdict ≡ index array)
  pub events : of_unit.accesses ≡ of_source.accesses
  pub arrays : of_unit.arrays ≡ of_source.arrays

-- Where the source leaves its arrays and the unit's run has begun, they end so.
abbrev pub LeavesAfterBegin : PlainUnit → PlainUnit → Type 0
LeavesAfterBegin source unit = (i : PlainInputs) (fault : Option Fault) → Fit source i → ¬ IsClean source i → (last_state unit i fault).begun ≡ true →
    EndsOutsideOrIndex (run source i fault) (run unit i fault)

-- ---- counts

-- For all sound inputs, whatever the fault, the unit is an instrumented text of the source whose tables can be built and whose pieces, counting passes and those that take their count from these tables, count:
-- each sets the count to the uses of the definition that is made, makes no access, and changes names of its own alone.
abbrev pub CountsUses : PlainUnit → PlainUnit → Type 0
CountsUses source unit = (i : PlainInputs) (fault : Option Upset) → IsSound source i →
    IsKeptUnit source unit i.ints (memory_for source i) fault (number_for source) (is_index_array source) (arrays_with_extents source.params) (builds (number_for source) source.body 0 (arrays_with_extents source.params))
    (initial_piece (number_for source) source.body) (piece_at (site_pieces_all (number_for source) (extents_of source.params) source.body 0 source.body))

-- At its place, from every state, a pass over an array that isn't inspected makes exactly the turns of the source's run.
abbrev pub PassesTurnAsSource : PlainUnit → Type 0
PassesTurnAsSource source = (i : PlainInputs) (fault : Option Upset) (target : Target) (site : Option ℕ) (base : Vars) (s : State) →
    IsSound source i → inspected_in (number_for source) source.body target.array ≡ false → AllHaveNoCells target.at → IsPlace (vars_of source.params i.ints) base →
    GoesTo (Turned (turns source i) s) (exec_all (scope_of (arrays_for source i.ints) (wides_for source) fault) (stmts_of (pass_text (number_for source) source.body target site)) base s)

-- ---- turns and tables

-- The run doesn't end at a check.
abbrev pub EndsAtNoCheck : End → Type 0
EndsAtNoCheck e = (a : ℕ) → e ≢ index a

-- For all sound inputs and under every fault, where its run doesn't end at a check, the unit's body makes the turns of the source, and once more for each write of an array that isn't inspected;
-- its prologue walks over the cells of each array, makes the source's turns twice for an inspected array, and for each cell of any other.
abbrev pub MakesSourceTurns : PlainUnit → PlainUnit → Type 0
MakesSourceTurns source unit = (i : PlainInputs) (fault : Option Fault) → IsSound source i → EndsAtNoCheck (run unit i fault).verdict → MakesTurns source i (run unit i fault)

-- Under every fault it makes exactly two tables for each inspected array,
abbrev pub MakesTables : PlainUnit → PlainUnit → Type 0
MakesTables source unit = (i : PlainInputs) (fault : Option Fault) → IsSound source i → (run unit i fault).tables ≡ tables_for source i

-- and none where no array is inspected, whatever inputs fit.
abbrev pub MakesNoTable : PlainUnit → PlainUnit → Type 0
MakesNoTable source unit = (i : PlainInputs) (fault : Option Fault) → Fit source i → InspectsNothing source → (run unit i fault).tables ≡ []

-- ---- together

-- The unit guards the source.
pub record Guards (source unit : PlainUnit) : Type 0 where
  pub balanced : EndsBalanced source unit
  pub reports : ReportsExactly source unit

-- and what more its runs are
pub record GuardsInDetail (source unit : PlainUnit) : Type 0 where
  pub guards : Guards source unit
  pub accesses : MakesSameAccesses source unit
  pub totals : HasTotals source unit
  pub names : NamesTheArray source unit
  pub indices : TellsOfIndexArrays source unit
  pub unread : StaysBalanced source unit
  pub counted : CountsUses source unit
  pub turns : PassesTurnAsSource source
  pub alike : RunsAsSource source unit
  pub ends : EndsOutsideAlike source unit
  pub beside : RunsOnOrEnds source unit
  pub leaves : LeavesAfterBegin source unit
  pub tables : MakesTables source unit
  pub no_tables : MakesNoTable source unit
  pub general : MakesSourceTurns source unit

-- Each source that has these forms, whatever inputs fit, is guarded by its instrumented unit.
abbrev pub ReadyAreGuarded : Type 0
ReadyAreGuarded = (u : PlainUnit) → ((i : PlainInputs) → Fit u i → HasForms u i) → GuardsInDetail u (guarded u)

-- A source of which no array is inspected has no index array, so what is said of faults in other arrays is said of all.
abbrev pub UninspectedHaveNoIndices : Type 0
UninspectedHaveNoIndices = (source : PlainUnit) (a : ℕ) → InspectsNothing source → is_index_array source a ≡ false
