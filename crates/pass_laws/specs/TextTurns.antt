-- The turns of an instrumented text, by those of its source; and that its tables are all made before the prologue.
use Rattle.std.specs.Prelude.{◌≡◌, ℕ, suc, Bool, not, ◌&&◌, ◌+◌, ◌*◌, if◌then◌else◌, List, [], ◌∷◌, ◌++◌}
use Rattle.c_tree.specs.Plain.{Word, PlainExprs, begin, verdict, PlainStmts, PlainParam}
use Rattle.c_tree.specs.Trees.{stmts_of}
use Rattle.c_tree.specs.Values.{Vars}
use Rattle.c_tree.specs.Arrays.{Array, Memory, arrays_of, cell_count, cell_walk}
use Rattle.c_tree.specs.Accesses.{Access}
use Rattle.c_tree.specs.Instances.{untagged}
use Rattle.c_tree.specs.Run.{State, Outcome, goes_on, ends, Scope, exec_all}
use Rattle.instrumentation.specs.Body.{instrument_all}
use Rattle.instrumentation.specs.Inspects.{inspects_all}
use Rattle.instrumentation.specs.Pieces.{initial_piece, site_pieces_all, piece_at}
use Rattle.instrumentation.specs.Prologue.{prologue_text}
use Rattle.instrumentation.specs.Guarded.{arrays_with_extents}
use Rattle.instrumentation_laws.specs.IndexedList.{tagged_all}
use Rattle.instrumentation_laws.specs.RegularUnits.{AreMeasured}
use Rattle.pass_laws.specs.Countable.{AreOwn, AreCountable}
use Rattle.pass_laws.specs.Going.{WhereGoing, HasCounters, Turned}
use Rattle.pass_laws.specs.Turns.{turns_all}

-- the writes in a list of arrays that aren't inspected
abbrev pub counted_in : (ℕ → Bool) → List Access → ℕ
counted_in inspected [] = 0
counted_in inspected (x ∷ xs) = (if x.writes && not (inspected x.array) then 1 else 0) + counted_in inspected xs

-- The body makes the source's turns, and once more for each of these, whatever memory is.
abbrev pub BodiesTurn : Type 0
BodiesTurn = (sc : Scope) (arrays : List Array) (m : Memory) (number : Word → ℕ) (texts : Word → PlainExprs) (body : PlainStmts) (params : Vars) → HasCounters sc.wides → AreOwn params → AreCountable arrays number body params → (s : State) →
    WhereGoing (Turned (turns_all body params + turns_all body params * counted_in (λ a. inspects_all number a body) (untagged (tagged_all arrays m number 0 body params))) s)
    (exec_all sc (stmts_of (instrument_all number texts (piece_at (site_pieces_all number texts body 0 body)) 0 body)) params s)

-- a walk over the cells of each of the arrays from number k on, and t turns for each cell where the array isn't inspected
abbrev pub walks_from : (ℕ → Bool) → ℕ → ℕ → List Array → ℕ
walks_from inspected t k [] = 0
walks_from inspected t k (a ∷ more) = (cell_walk a.extents + (if inspected k then 0 else cell_count a.extents * t)) + walks_from inspected t (suc k) more

-- So many turns does the prologue make, after the tables.
abbrev pub ProloguesTurn : Type 0
ProloguesTurn = (sc : Scope) (arrays : List Array) (number : Word → ℕ) (body : PlainStmts) (params : Vars) (ps : List PlainParam) → HasCounters sc.wides → AreOwn params → AreCountable arrays number body params → AreMeasured params ps → (s : State) →
    WhereGoing (Turned (walks_from (λ a. inspects_all number a body) (turns_all body params) 0 (arrays_of params ps)) s)
    (exec_all sc (stmts_of (prologue_text (initial_piece number body) 0 (arrays_with_extents ps))) params s)

-- ---- tables

-- wherever it goes on or ends, these are the tables that were made
abbrev pub HasMade : {A : Type 0} → List ℕ → Outcome A → Type 0
HasMade made (goes_on a t) = t.made ≡ made
HasMade made (ends e t) = t.made ≡ made

-- Behind its tables a text makes none.
abbrev pub TextsMakeNoTable : Type 0
TextsMakeNoTable = (sc : Scope) (number : Word → ℕ) (texts : Word → PlainExprs) (body : PlainStmts) (decls : List (Word × PlainExprs)) (vs : Vars) (s : State) →
    HasMade s.made (exec_all sc (stmts_of (prologue_text (initial_piece number body) 0 decls ++ (begin ∷ (instrument_all number texts (piece_at (site_pieces_all number texts body 0 body)) 0 body ++ verdict ∷ [])))) vs s)
