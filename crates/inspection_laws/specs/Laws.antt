-- What the tables of an inspected array hold, and when they can be built, each law as one statement.
use Rattle.std.specs.Prelude.{◌≡◌, ℕ, ◌+◌, ◌*◌, ◌^◌, ◌<◌, false, List, [], ◌∷◌, length, map, ℤ, Option}
use Rattle.c_tree.specs.Plain.{Word, PlainExprs, PlainStmts}
use Rattle.c_tree.specs.Trees.{stmts_of}
use Rattle.c_tree.specs.Values.{Vars}
use Rattle.c_tree.specs.Arrays.{Array, Memory}
use Rattle.c_tree.specs.Accesses.{Clean}
use Rattle.c_tree.specs.Fault.{Upset}
use Rattle.c_tree.specs.Instances.{untagged}
use Rattle.c_tree.specs.Run.{State, End, Outcome, goes_on, ends, exec_all}
use Rattle.instrumentation_laws.specs.Setting.{scope_of, Untouched}
use Rattle.pass_laws.specs.Countable.{AreOwn}
use Rattle.pass_laws.specs.Turns.{turns_all}
use Rattle.pass_laws.specs.Places.{IsPlace}
use Rattle.instrumentation.specs.Tables.{build}
use Rattle.instrumentation_laws.specs.KeptTexts.{Prepared}
use Rattle.inspection_laws.specs.Inspections.{tables_kept}
use Rattle.instrumentation.specs.Pieces.{builds}
use Rattle.instrumentation_laws.specs.Indices.{AllIndicesLie}
use Rattle.inspection_laws.specs.Left.{TellsOfLeft}
use Rattle.inspection_laws.specs.CountedUnits.{inspected_from}
use Rattle.inspection_laws.specs.AllTables.{Named, build_all, AreDistinct, AreReady, AllBuilt, misses_each}
use Rattle.inspection_laws.specs.Misses.{misses_in, misses_all}
use Rattle.instrumentation_laws.specs.IndexedList.{tagged_all}
use Rattle.inspection_laws.specs.Walked.{IsKnown, AreWalked, AreExtents, HasTables, Built}

-- the run goes on to such a state
abbrev pub Holds : (State → Type 0) → Outcome (Unit {0}) → Type 0
Holds P (goes_on u t) = P t
Holds P (ends e t) = ⊥

-- Before the text has begun, the tables of an array are built from memory m, where the source's list over m is clean: they hold the uses of its definitions.
abbrev pub TablesHoldUses : Type 0
TablesHoldUses = (arrays : List Array) (number : Word → ℕ) (wides : List Word) (fault : Option Upset) (a : ℕ) (params : Vars) (extents : ℕ → List ℤ) (ns : PlainExprs) (body : PlainStmts) (s : State) →
    HasTables arrays wides a → IsPlace params params → AreOwn params → ((x : Word) (k : IsKnown arrays number x) → k.array.1.extents ≡ extents k.array.0) → AreExtents ns (extents a) params →
    AreWalked arrays number body params → Clean extents (untagged (tagged_all arrays s.memory number 0 body params)) → length (tagged_all arrays s.memory number 0 body params) < 2 ^ 63 → s.begun ≡ false →
    Holds (Built (untagged (tagged_all arrays s.memory number 0 body params)) a (extents a) s) (exec_all (scope_of arrays wides fault) (stmts_of (build number body a ns)) params s)

-- It goes on where there is no miss, with so many turns and nothing changed but tables and words of pieces, and ends as the first of them before the text has begun.
abbrev pub EndsAtFirst : List End → State → ℕ → Outcome (Unit {0}) → Type 0
EndsAtFirst l from n (goes_on u t) = (l ≡ []) × (t.prologue_turns ≡ from.prologue_turns + n) × (t.body_turns ≡ from.body_turns) × Untouched from t
EndsAtFirst l from n (ends e t) = (r : List End) × (l ≡ e ∷ r) × (t.begun ≡ false)

-- From every memory the tables are built exactly where no access of the array has an index cell outside its array or a coordinate from one outside its extent, in twice the source's turns; else the run ends as the first such access says.
abbrev pub TablesEndExactly : Type 0
TablesEndExactly = (arrays : List Array) (number : Word → ℕ) (wides : List Word) (fault : Option Upset) (a : ℕ) (params : Vars) (extents : ℕ → List ℤ) (ns : PlainExprs) (body : PlainStmts) (s : State) →
    HasTables arrays wides a → IsPlace params params → AreOwn params → ((x : Word) (k : IsKnown arrays number x) → k.array.1.extents ≡ extents k.array.0) → AreExtents ns (extents a) params →
    AreWalked arrays number body params → s.begun ≡ false →
    EndsAtFirst (misses_all (misses_in arrays s.memory number a (extents a)) body params) s (2 * turns_all body params) (exec_all (scope_of arrays wides fault) (stmts_of (build number body a ns)) params s)

-- ---- the tables of several arrays

-- Each holds what it holds alone, and the state is one from which pieces run.
abbrev pub AllTablesHoldUses : Type 0
AllTablesHoldUses = (arrays : List Array) (number : Word → ℕ) (wides : List Word) (fault : Option Upset) (params : Vars) (extents : ℕ → List ℤ) (xs : Named) (body : PlainStmts) (s : State) →
    AreReady arrays wides extents params xs → AreDistinct xs → IsPlace params params → AreOwn params → ((x : Word) (k : IsKnown arrays number x) → k.array.1.extents ≡ extents k.array.0) →
    AreWalked arrays number body params → Clean extents (untagged (tagged_all arrays s.memory number 0 body params)) → length (tagged_all arrays s.memory number 0 body params) < 2 ^ 63 → s.begun ≡ false →
    Holds (λ t. AllBuilt (untagged (tagged_all arrays s.memory number 0 body params)) extents xs s t × Prepared (tables_kept (map (λ x. x.0) xs) t.tables) s t)
    (exec_all (scope_of arrays wides fault) (stmts_of (build_all number body xs)) params s)

-- From every memory they are built exactly where none has a miss, in twice the source's turns each; else the run ends as the first miss says.
abbrev pub AllTablesEndExactly : Type 0
AllTablesEndExactly = (arrays : List Array) (number : Word → ℕ) (wides : List Word) (fault : Option Upset) (params : Vars) (extents : ℕ → List ℤ) (xs : Named) (body : PlainStmts) (s : State) →
    AreReady arrays wides extents params xs → IsPlace params params → AreOwn params → ((x : Word) (k : IsKnown arrays number x) → k.array.1.extents ≡ extents k.array.0) →
    AreWalked arrays number body params → s.begun ≡ false →
    EndsAtFirst (misses_each arrays s.memory number extents body params xs) s (length xs * (2 * turns_all body params)) (exec_all (scope_of arrays wides fault) (stmts_of (build_all number body xs)) params s)

-- ---- misses

-- The first miss of several arrays tells of an access outside its extents, in the source's list,
abbrev pub FirstMissTells : Type 0
FirstMissTells = (arrays : List Array) (number : Word → ℕ) (m : Memory) (params : Vars) (extents : ℕ → List ℤ) (xs : Named) (body : PlainStmts) (e : End) (r : List End) →
    ((x : Word) (k : IsKnown arrays number x) → k.array.1.extents ≡ extents k.array.0) → AreWalked arrays number body params →
    misses_each arrays m number extents body params xs ≡ e ∷ r → TellsOfLeft extents (untagged (tagged_all arrays m number 0 body params)) e

-- and where the inspected arrays have none, every index lies within its extent.
abbrev pub IndicesLieElse : Type 0
IndicesLieElse = (arrays : List Array) (number : Word → ℕ) (m : Memory) (params : Vars) (extents : ℕ → List ℤ) (decls : List (Word × PlainExprs)) (body : PlainStmts) →
    ((x : Word) (k : IsKnown arrays number x) → k.array.1.extents ≡ extents k.array.0) → AreWalked arrays number body params → length arrays ≡ length decls →
    misses_each arrays m number extents body params (inspected_from number body 0 decls) ≡ [] → AllIndicesLie arrays m number extents body params

-- ---- the tables of a whole unit

-- They are those of its inspected arrays.
abbrev pub UnitsBuildAll : Type 0
UnitsBuildAll = (number : Word → ℕ) (body : PlainStmts) (a : ℕ) (decls : List (Word × PlainExprs)) → builds number body a decls ≡ build_all number body (inspected_from number body a decls)
