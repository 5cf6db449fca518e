-- The turns of the instrumented unit of a general source, by those of its source, and the tables that it makes, by the source's accesses.
use Rattle.std.specs.Prelude.{◌≡◌, ◌≢◌, ℕ, Bool, false, suc, ◌+◌, ◌*◌, if◌then◌else◌, List, [], ◌∷◌, ◌++◌, ℤ, Option, None}
use Rattle.c_tree.specs.Plain.{PlainUnit}
use Rattle.c_tree.specs.Arrays.{Array, Memory, cell_count, cell_walk, vars_of}
use Rattle.c_tree.specs.Accesses.{Access, writes_of}
use Rattle.c_tree.specs.Fault.{Fault, Upset, upset_of}
use Rattle.c_tree.specs.Inputs.{PlainInputs, arrays_for, memory_for, IsSound}
use Rattle.c_tree.specs.Instances.{untagged, accesses}
use Rattle.c_tree.specs.Run.{Ended, plain, index, run_from, run, turns}
use Rattle.instrumentation.specs.Pieces.{initial_piece, site_pieces_all, piece_at, builds}
use Rattle.instrumentation.specs.Guarded.{arrays_with_extents, extents_of, guarded}
use Rattle.instrumentation_laws.specs.IndexedList.{tagged_all}
use Rattle.instrumentation_laws.specs.Setting.{inspected_in}
use Rattle.instrumentation_laws.specs.RegularUnits.{AreMeasured, number_for}
use Rattle.instrumentation_laws.specs.KeptUnits.{IsKeptUnit}
use Rattle.inspection_laws.specs.CountedUnits.{IsCountableUnit}

-- the writes of the arrays that aren't inspected, from number k on
abbrev pub counted_writes : (ℕ → Bool) → List Access → ℕ → List Array → ℕ
counted_writes inspected list k [] = 0
counted_writes inspected list k (a ∷ more) = (if inspected k then 0 else writes_of list k) + counted_writes inspected list (suc k) more

-- a walk over the cells of each array; and where it is inspected twice the source's turns t, else these for each cell
abbrev pub turns_before : (ℕ → Bool) → ℕ → ℕ → List Array → ℕ
turns_before inspected t k [] = 0
turns_before inspected t k (a ∷ more) = (cell_walk a.extents + (if inspected k then 2 * t else cell_count a.extents * t)) + turns_before inspected t (suc k) more

-- two tables for each inspected array: one has an entry for each cell, the other one for each cell and each write
abbrev pub lengths_of_tables : (ℕ → Bool) → List Access → ℕ → List Array → List ℕ
lengths_of_tables inspected list k [] = []
lengths_of_tables inspected list k (a ∷ more) =
    (if inspected k then cell_count a.extents ∷ (cell_count a.extents + writes_of list k) ∷ [] else []) ++ lengths_of_tables inspected list (suc k) more

-- The body makes the source's turns, and once more for each write of an array that isn't inspected.
pub record MakesTurns (source : PlainUnit) (i : PlainInputs) (r : Ended) : Type 0 where
  pub body : r.body_turns ≡ turns source i + turns source i * counted_writes (inspected_in (number_for source) source.body) (accesses source i.ints (memory_for source i)) 0 (arrays_for source i.ints)
  pub prologue : r.prologue_turns ≡ turns_before (inspected_in (number_for source) source.body) (turns source i) 0 (arrays_for source i.ints)

-- the tables that are made for a source on these inputs, arrays in declared order
abbrev pub tables_for : PlainUnit → PlainInputs → List ℕ
tables_for source i = lengths_of_tables (inspected_in (number_for source) source.body) (accesses source i.ints (memory_for source i)) 0 (arrays_for source i.ints)

-- For sound inputs, where the source's run without a fault ends plain, the unit makes these turns under every fault where it doesn't end at a check.
abbrev pub UnitsMakeTurns : Type 0
UnitsMakeTurns = (u : PlainUnit) (i : PlainInputs) (fault : Option Fault) (is_index : ℕ → Bool) → IsCountableUnit u i.ints → AreMeasured (vars_of u.params i.ints) u.params → (run u i None).verdict ≡ plain →
    IsKeptUnit u (guarded u) i.ints (memory_for u i) (upset_of (arrays_for u i.ints) fault) (number_for u) is_index (arrays_with_extents u.params) (builds (number_for u) u.body 0 (arrays_with_extents u.params))
    (initial_piece (number_for u) u.body) (piece_at (site_pieces_all (number_for u) (extents_of u.params) u.body 0 u.body)) →
    IsSound u i → ((a : ℕ) → (run (guarded u) i fault).verdict ≢ index a) → MakesTurns u i (run (guarded u) i fault)

-- Under every fault it makes these tables, wherever its run ends.
abbrev pub UnitsMakeTables : Type 0
UnitsMakeTables = (u : PlainUnit) (i : PlainInputs) (fault : Option Fault) → IsCountableUnit u i.ints →
    untagged (tagged_all (arrays_for u i.ints) (memory_for u i) (number_for u) 0 u.body (vars_of u.params i.ints)) ≡ accesses u i.ints (memory_for u i) → IsSound u i → (run (guarded u) i fault).tables ≡ tables_for u i

-- Where no array is inspected it makes none, from every memory.
abbrev pub UnitsMakeNoTable : Type 0
UnitsMakeNoTable = (u : PlainUnit) (ns : List ℤ) (m : Memory) (fault : Option Upset) → ((a : ℕ) → inspected_in (number_for u) u.body a ≡ false) → (run_from (guarded u) ns m fault).tables ≡ []
