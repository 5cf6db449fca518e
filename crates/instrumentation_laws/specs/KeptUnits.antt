-- What the run of a whole instrumented unit with tables gives, beside that of its source and under every fault, each law as one statement.
use Rattle.std.specs.Prelude.{◌≡◌, ◌≢◌, ◌↔◌, ◌⊎◌, ℕ, ◌^◌, ◌<◌, Bool, true, false, nat_eq, List, [], ◌∷◌, length, ℤ, Option, Some, None}
use Rattle.std.specs.List.{list_any}
use Rattle.c_tree.specs.Plain.{Word, PlainExprs, PlainStmt, PlainUnit}
use Rattle.c_tree.specs.Trees.{stmts_of}
use Rattle.c_tree.specs.Arrays.{Memory, extents_at, vars_of, words_from}
use Rattle.c_tree.specs.Accesses.{Access}
use Rattle.c_tree.specs.Fault.{Fault, Upset, upset_of, Exposed}
use Rattle.c_tree.specs.Instances.{untagged, accesses, source_output, literal_of}
use Rattle.c_tree.specs.Inputs.{PlainInputs, arrays_for, memory_for, IsSound}
use Rattle.c_tree.specs.Run.{End, plain, balanced, fault as faulty, outside, index, judged, Ended, Reports, started, exec_all, run_from, run}
use Rattle.run_laws.specs.Laws.{RunsThrough}
use Rattle.run_laws.specs.Logs.{accesses_in, values_in}
use Rattle.instrumentation_laws.specs.IndexedList.{tagged_all}
use Rattle.instrumentation.specs.Guarded.{arrays_with_extents, extents_of as declared_extents, array_names}
use Rattle.instrumentation_laws.specs.OwnNames.{AllMayLoop}
use Rattle.instrumentation_laws.specs.Sources.{AreSource}
use Rattle.instrumentation_laws.specs.Pieces.{Piece}
use Rattle.instrumentation_laws.specs.PrologueTotals.{AreGoing}
use Rattle.instrumentation_laws.specs.RegularUnits.{AreMeasured, number_for, wides_for}
use Rattle.instrumentation_laws.specs.Kept.{Kept, IsKept, IsSitePiece, AreCellPieces}
use Rattle.instrumentation_laws.specs.KeptTexts.{GoesPrepared, KeptSetting, HasIndexArrays}
use Rattle.instrumentation_laws.specs.Setting.{scope_of, inspected_in, GoesUntouched}
use Rattle.instrumentation_laws.specs.UnitLaws.{IsInstrumented, IsGoing, StaysWithin, differing, totals_over}
use Rattle.instrumentation_laws.specs.Indices.{AllIndicesLie}
use Rattle.instrumentation_laws.specs.WordValues.{AllAssignWords}

-- For these parameters, from this memory and under this fault the unit builds its tables, and its pieces count from what they keep, those of all arrays being in the prologue.
-- The accesses of its source by signed values are those of its instances, and some arrays are index arrays.
pub record IsKeptUnit (u t : PlainUnit) (ns : List ℤ) (m : Memory) (fault : Option Upset) (number : Word → ℕ) (is_index : ℕ → Bool) (decls : List (Word × PlainExprs)) (tables : List PlainStmt) (cells : ℕ → PlainExprs → List PlainStmt) (pieces : ℕ → List PlainStmt) : Type 0 where
  pub text : IsInstrumented u t number decls tables cells pieces
  pub kept : Kept
  pub setting : KeptSetting (arrays_for u ns) number t.wides fault (vars_of u.params ns) (extents_at (arrays_for u ns)) (started t m) decls u.body kept tables cells pieces
  pub all : length (arrays_for u ns) ≡ length decls
  pub few : length decls < 2 ^ 64
  pub listed : untagged (tagged_all (arrays_for u ns) m number 0 u.body (vars_of u.params ns)) ≡ accesses u ns m
  pub index_arrays : HasIndexArrays number is_index (accesses u ns m) u.body

-- ---- without a fault

-- it ends balanced, with the source's output and accesses, each with the value that the source's run gives it
pub record IsBalancedAs (u : PlainUnit) (i : PlainInputs) (source text : Ended) : Type 0 where
  pub verdict : text.verdict ≡ balanced
  pub arrays : text.arrays ≡ words_from (source_output u i.ints (memory_for u i)) 0 (arrays_for u i.ints)
  pub made : accesses_in text.accesses ≡ accesses u i.ints (memory_for u i)
  pub events : text.accesses ≡ source.accesses

abbrev pub EveryKeptRunBalances : Type 0
EveryKeptRunBalances = (u t : PlainUnit) (i : PlainInputs) (number : Word → ℕ) (is_index : ℕ → Bool) (decls : List (Word × PlainExprs)) (tables : List PlainStmt) (cells : ℕ → PlainExprs → List PlainStmt) (pieces : ℕ → List PlainStmt) →
    IsKeptUnit u t i.ints (memory_for u i) None number is_index decls tables cells pieces → RunsThrough u i (run u i None) → IsSound u i →
    IsBalancedAs u i (run u i None) (run t i None)

-- ---- under every fault, beside the source's run under the same fault

-- where the source ends plain, the totals decide; where it leaves an array, the unit ends at a check of an index of it
abbrev pub EndsAtCheck : (ℕ → Bool) → End → List (ℕ × ℕ) → End → Type 0
EndsAtCheck inspected plain pairs e = e ≡ judged (differing 0 pairs)
EndsAtCheck inspected (outside a) pairs e = (e ≡ index a) × (inspected a ≡ true)
EndsAtCheck inspected other pairs e = ⊥

-- the same accesses with the same values, and the same arrays
pub record TakesSteps (inspected : ℕ → Bool) (source text : Ended) : Type 0 where
  pub events : text.accesses ≡ source.accesses
  pub arrays : text.arrays ≡ source.arrays
  pub verdict : EndsAtCheck inspected source.verdict text.totals text.verdict

abbrev pub EveryKeptRunFollows : Type 0
EveryKeptRunFollows = (u t : PlainUnit) (i : PlainInputs) (fault : Option Fault) (number : Word → ℕ) (is_index : ℕ → Bool) (decls : List (Word × PlainExprs)) (tables : List PlainStmt) (cells : ℕ → PlainExprs → List PlainStmt) (pieces : ℕ → List PlainStmt) →
    IsKeptUnit u t i.ints (memory_for u i) (upset_of (arrays_for u i.ints) fault) number is_index decls tables cells pieces → IsSound u i →
    TakesSteps (inspected_in number u.body) (run u i fault) (run t i fault)

-- ---- totals

-- those of the source's list without the fault, and of the values of this very run; the verdict names the arrays whose totals differ
pub record HasTotalsOf (u : PlainUnit) (i : PlainInputs) (r : Ended) : Type 0 where
  pub totals : r.totals ≡ totals_over (accesses u i.ints (memory_for u i)) (extents_at (arrays_for u i.ints)) (memory_for u i) (values_in r.accesses) 0 (arrays_for u i.ints)
  pub verdict : r.verdict ≡ judged (differing 0 r.totals)

-- under every fault, where the run doesn't end at a check
abbrev pub EveryKeptRunHasTotals : Type 0
EveryKeptRunHasTotals = (u t : PlainUnit) (i : PlainInputs) (fault : Option Fault) (number : Word → ℕ) (is_index : ℕ → Bool) (decls : List (Word × PlainExprs)) (tables : List PlainStmt) (cells : ℕ → PlainExprs → List PlainStmt) (pieces : ℕ → List PlainStmt) →
    IsKeptUnit u t i.ints (memory_for u i) (upset_of (arrays_for u i.ints) fault) number is_index decls tables cells pieces → IsSound u i →
    ((a : ℕ) → (run t i fault).verdict ≢ index a) → HasTotalsOf u i (run t i fault)

-- ---- with a fault

-- at a check, or with a list of arrays that has this one
pub record IsAmong (a : ℕ) (e : End) : Type 0 where
  pub arrays : List ℕ
  pub named : e ≡ faulty arrays
  pub among : list_any (nat_eq a) arrays ≡ true

abbrev pub StopsOrNames : ℕ → End → Type 0
StopsOrNames a e = ((b : ℕ) × (e ≡ index b)) ⊎ IsAmong a e

-- A run reports exactly where the fault is exposed. If this is in no index array, it then names its array alone; else it ends at a check, or names it. Where the fault isn't exposed, it ends balanced.
pub record TellsOfEach (list : List Access) (is_index : ℕ → Bool) (upset : Upset) (r : Ended) : Type 0 where
  pub reports : Reports r.verdict ↔ Exposed list upset
  pub named : is_index upset.array ≡ false → Exposed list upset → r.verdict ≡ faulty (upset.array ∷ [])
  pub index_array : is_index upset.array ≡ true → Exposed list upset → StopsOrNames upset.array r.verdict
  pub hidden : ¬ Exposed list upset → r.verdict ≡ balanced

abbrev pub EveryKeptRunTells : Type 0
EveryKeptRunTells = (u t : PlainUnit) (i : PlainInputs) (f : Fault) (upset : Upset) (number : Word → ℕ) (is_index : ℕ → Bool) (decls : List (Word × PlainExprs)) (tables : List PlainStmt) (cells : ℕ → PlainExprs → List PlainStmt) (pieces : ℕ → List PlainStmt) →
    upset_of (arrays_for u i.ints) (Some f) ≡ Some upset → IsKeptUnit u t i.ints (memory_for u i) (Some upset) number is_index decls tables cells pieces → IsSound u i →
    f.array < length (arrays_for u i.ints) → f.bit < 64 → ((x : Word) → literal_of u.words x < 2 ^ 64) → AllAssignWords u.body (vars_of u.params i.ints) →
    TellsOfEach (accesses u i.ints (memory_for u i)) is_index upset (run t i (Some f))

-- where the fault isn't exposed or is in no index array, the run makes the source's accesses, as the source's own run does, which ends plain
pub record StaysOnCourse (list : List Access) (source text : Ended) : Type 0 where
  pub source_ends : source.verdict ≡ plain
  pub made : accesses_in text.accesses ≡ list
  pub events : text.accesses ≡ source.accesses

abbrev pub EveryKeptRunStaysOnCourse : Type 0
EveryKeptRunStaysOnCourse = (u t : PlainUnit) (i : PlainInputs) (f : Fault) (upset : Upset) (number : Word → ℕ) (is_index : ℕ → Bool) (decls : List (Word × PlainExprs)) (tables : List PlainStmt) (cells : ℕ → PlainExprs → List PlainStmt) (pieces : ℕ → List PlainStmt) →
    upset_of (arrays_for u i.ints) (Some f) ≡ Some upset → IsKeptUnit u t i.ints (memory_for u i) (Some upset) number is_index decls tables cells pieces → IsSound u i →
    (is_index upset.array ≡ false) ⊎ (¬ Exposed (accesses u i.ints (memory_for u i)) upset) →
    StaysOnCourse (accesses u i.ints (memory_for u i)) (run u i (Some f)) (run t i (Some f))

-- ---- inputs for which the source leaves its arrays

-- the source ends outside an array, and the text so or, where it is inspected, at a check of an index of it, with the same accesses, values and arrays
pub record EndOutsideBeside (inspected : ℕ → Bool) (source text : Ended) : Type 0 where
  pub array : ℕ
  pub source_ends : source.verdict ≡ outside array
  pub text_ends : (text.verdict ≡ outside array) ⊎ ((text.verdict ≡ index array) × (inspected array ≡ true))
  pub events : text.accesses ≡ source.accesses
  pub arrays : text.arrays ≡ source.arrays

-- Under every fault, where the tables can be built and so every index cell of an inspected array gives an index within its extent.
abbrev pub EveryKeptUnitLeaves : Type 0
EveryKeptUnitLeaves = (u t : PlainUnit) (ns : List ℤ) (m : Memory) (fault : Option Upset) (number : Word → ℕ) (decls : List (Word × PlainExprs)) (tables : List PlainStmt) (cells : ℕ → PlainExprs → List PlainStmt) (pieces : ℕ → List PlainStmt) →
    IsGoing u t ns m fault number decls tables cells pieces → untagged (tagged_all (arrays_for u ns) m number 0 u.body (vars_of u.params ns)) ≡ accesses u ns m →
    AllIndicesLie (arrays_for u ns) m number (extents_at (arrays_for u ns)) u.body (vars_of u.params ns) → ¬ StaysWithin u ns m →
    EndOutsideBeside (inspected_in number u.body) (run_from u ns m fault) (run_from t ns m fault)

-- ---- what makes such units

-- pieces that count from what the tables keep, in the run of an instrumented unit of this source
pub record HasKeptPieces (u t : PlainUnit) (ns : List ℤ) (m : Memory) (fault : Option Upset) (kept : Kept) (tables : List PlainStmt) (cells : ℕ → PlainExprs → List PlainStmt) (pieces : ℕ → List PlainStmt) : Type 0 where
  pub is_kept : IsKept kept
  pub tables_go : GoesPrepared kept (started t m) (exec_all (scope_of (arrays_for u ns) (wides_for u) fault) (stmts_of tables) (vars_of u.params ns) (started t m))
  pub at_sites : (k : ℕ) → IsSitePiece kept (scope_of (arrays_for u ns) (wides_for u) fault) (tagged_all (arrays_for u ns) m (number_for u) 0 u.body (vars_of u.params ns)) k (pieces k)
  pub at_cells : AreCellPieces kept (scope_of (arrays_for u ns) (wides_for u) fault) (tagged_all (arrays_for u ns) m (number_for u) 0 u.body (vars_of u.params ns)) (vars_of u.params ns) (extents_at (arrays_for u ns)) cells 0 (arrays_with_extents u.params)

-- a source, with irregular reads or without, for these parameters
pub record IsWellFormed (u : PlainUnit) (ns : List ℤ) : Type 0 where
  pub version : u.version ≡ None
  pub no_wides : u.wides ≡ []
  pub params : AllMayLoop (vars_of u.params ns)
  pub arrays : AreMeasured (vars_of u.params ns) u.params
  pub few : length (array_names u.params) < 2 ^ 64
  pub body : AreSource (arrays_for u ns) (number_for u) (declared_extents u.params) (inspected_in (number_for u) u.body) u.body (vars_of u.params ns)

-- The names and numbers of an instrumented unit are right whatever its pieces are: they count,
abbrev pub KeptUnitsAreCounted : Type 0
KeptUnitsAreCounted = (u t : PlainUnit) (ns : List ℤ) (m : Memory) (fault : Option Upset) (is_index : ℕ → Bool) (kept : Kept) (tables : List PlainStmt) (cells : ℕ → PlainExprs → List PlainStmt) (pieces : ℕ → List PlainStmt) →
    IsWellFormed u ns → IsInstrumented u t (number_for u) (arrays_with_extents u.params) tables cells pieces → t.wides ≡ wides_for u → HasKeptPieces u t ns m fault kept tables cells pieces →
    untagged (tagged_all (arrays_for u ns) m (number_for u) 0 u.body (vars_of u.params ns)) ≡ accesses u ns m → HasIndexArrays (number_for u) is_index (accesses u ns m) u.body →
    IsKeptUnit u t ns m fault (number_for u) is_index (arrays_with_extents u.params) tables cells pieces

-- or go on.
abbrev pub KeptUnitsGoOn : Type 0
KeptUnitsGoOn = (u t : PlainUnit) (ns : List ℤ) (m : Memory) (fault : Option Upset) (tables : List PlainStmt) (cells : ℕ → PlainExprs → List PlainStmt) (pieces : ℕ → List PlainStmt) →
    IsWellFormed u ns → IsInstrumented u t (number_for u) (arrays_with_extents u.params) tables cells pieces → t.wides ≡ wides_for u →
    GoesUntouched (started t m) (exec_all (scope_of (arrays_for u ns) (wides_for u) fault) (stmts_of tables) (vars_of u.params ns) (started t m)) →
    ((k : ℕ) → Piece (scope_of (arrays_for u ns) (wides_for u) fault) (pieces k)) → AreGoing (scope_of (arrays_for u ns) (wides_for u) fault) cells 0 (arrays_with_extents u.params) →
    IsGoing u t ns m fault (number_for u) (arrays_with_extents u.params) tables cells pieces

-- Those that count go on.
abbrev pub CountedUnitsGoOn : Type 0
CountedUnitsGoOn = (u t : PlainUnit) (ns : List ℤ) (m : Memory) (fault : Option Upset) (number : Word → ℕ) (is_index : ℕ → Bool) (decls : List (Word × PlainExprs)) (tables : List PlainStmt) (cells : ℕ → PlainExprs → List PlainStmt) (pieces : ℕ → List PlainStmt) →
    IsKeptUnit u t ns m fault number is_index decls tables cells pieces → IsGoing u t ns m fault number decls tables cells pieces
