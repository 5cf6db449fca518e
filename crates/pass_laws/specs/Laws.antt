-- The laws of counting passes, each as one statement.
use Rattle.std.specs.Prelude.{◌≡◌, ℕ, ◌^◌, ◌<◌, true, false, List, [], ◌∷◌, length, ℤ, Option, Some, None, slice_get}
use Rattle.c_tree.specs.Plain.{Word, PlainExprs, cell, PlainStmts, PlainUnit}
use Rattle.c_tree.specs.Trees.{stmts_of}
use Rattle.c_tree.specs.Values.{Vars}
use Rattle.c_tree.specs.Arrays.{Array, Memory, extents_at, vars_of}
use Rattle.c_tree.specs.Instances.{Tagged}
use Rattle.c_tree.specs.Inputs.{PlainInputs, arrays_for}
use Rattle.c_tree.specs.Run.{State, Scope, exec_all, plain, run, turns}
use Rattle.instrumentation.specs.Names.{number_in}
use Rattle.instrumentation.specs.Inspects.{inspects_all}
use Rattle.instrumentation.specs.Passes.{Target, pass_text, cell_piece}
use Rattle.instrumentation.specs.Pieces.{site_piece, site_pieces_all, piece_at}
use Rattle.instrumentation.specs.Guarded.{array_names, guarded}
use Rattle.instrumentation_laws.specs.AccessList.{cell_access}
use Rattle.instrumentation_laws.specs.IndexedList.{tagged_all}
use Rattle.instrumentation_laws.specs.Pieces.{IsSitePiece}
use Rattle.instrumentation_laws.specs.PrologueTotals.{coordinate_vars, IsCellPiece}
use Rattle.pass_laws.specs.Countable.{AreOwn, AllHaveNoCells, IsCell, AreCountable, rank}
use Rattle.pass_laws.specs.Going.{GoesTo, WhereGoing, HasCounters, Leaves, Turned}
use Rattle.pass_laws.specs.Places.{IsPlace}
use Rattle.pass_laws.specs.Targets.{target_at, is_inspected}
use Rattle.pass_laws.specs.Turns.{turns_all}

-- ---- passes go on

-- From every state, and whatever parameters and loops there are, a pass for an array that isn't inspected goes on, makes no access, and sets its own words and the count alone.
abbrev pub PassesGoOn : Type 0
PassesGoOn = (sc : Scope) (arrays : List Array) (number : Word → ℕ) (body : PlainStmts) (params : Vars) (target : Target) (site : Option ℕ) →
    HasCounters sc.wides → AreCountable arrays number body params → inspects_all number target.array body ≡ false → AllHaveNoCells target.at →
    (vs : Vars) (s : State) → GoesTo (Leaves s) (exec_all sc (stmts_of (pass_text number body target site)) vs s)

-- So does the piece of each assignment to such an array, and to none.
abbrev pub SitesGoOn : Type 0
SitesGoOn = (sc : Scope) (arrays : List Array) (number : Word → ℕ) (texts : Word → PlainExprs) (body : PlainStmts) (params : Vars) →
    HasCounters sc.wides → AreCountable arrays number body params → (k : ℕ) → is_inspected number body (target_at body k) ≡ false →
    (vs : Vars) (s : State) → GoesTo (Leaves s) (exec_all sc (stmts_of (piece_at (site_pieces_all number texts body 0 body) k)) vs s)

-- At its place it makes as many turns as the source,
abbrev pub PassesTurn : Type 0
PassesTurn = (sc : Scope) (arrays : List Array) (number : Word → ℕ) (body : PlainStmts) (params base : Vars) (target : Target) (site : Option ℕ) →
    HasCounters sc.wides → AreOwn params → AreCountable arrays number body params → inspects_all number target.array body ≡ false → AllHaveNoCells target.at → IsPlace params base →
    (s : State) → GoesTo (Turned (turns_all body params) s) (exec_all sc (stmts_of (pass_text number body target site)) base s)

-- for these are the turns of the source: under every fault those of its run, where that goes on,
abbrev pub SourcesTurn : Type 0
SourcesTurn = (sc : Scope) (arrays : List Array) (number : Word → ℕ) (body : PlainStmts) (vs : Vars) → AreCountable arrays number body vs →
    (s : State) → WhereGoing (Turned (turns_all body vs) s) (exec_all sc body vs s)

-- and those of a unit whose run without a fault ends plain.
abbrev pub UnitsTurn : Type 0
UnitsTurn = (u : PlainUnit) (i : PlainInputs) → AreCountable (arrays_for u i.ints) (number_in (array_names u.params)) u.body (vars_of u.params i.ints) → u.version ≡ None → (run u i None).verdict ≡ plain →
    turns u i ≡ turns_all u.body (vars_of u.params i.ints)

-- The loop values of each write are a place of a pass,
abbrev pub WritesArePlaces : Type 0
WritesArePlaces = (arrays : List Array) (m : Memory) (number : Word → ℕ) (body : PlainStmts) (params : Vars) → AreOwn params → AreCountable arrays number body params →
    (n : ℕ) (t : Tagged) → slice_get (tagged_all arrays m number 0 body params) n ≡ Some t → t.access.writes ≡ true → IsPlace params t.vars

-- and so are the coordinates of each cell.
abbrev pub CellsArePlaces : Type 0
CellsArePlaces = (params : Vars) (cs : List ℤ) → AreOwn params → IsPlace params (coordinate_vars 0 cs params)

-- ---- the assignments of a source

-- each write is made by an assignment to this cell
pub record IsByTarget (arrays : List Array) (number : Word → ℕ) (body : PlainStmts) (t : Tagged) : Type 0 where
  pub name : Word
  pub at : PlainExprs
  pub target_is : target_at body t.site ≡ cell name at
  pub access_is : t.access ≡ cell_access number name at t.vars true
  pub cell_is : IsCell arrays number name at t.vars

abbrev pub WritesAreByTargets : Type 0
WritesAreByTargets = (arrays : List Array) (m : Memory) (number : Word → ℕ) (body : PlainStmts) (params : Vars) → AreCountable arrays number body params →
    (n : ℕ) (t : Tagged) → slice_get (tagged_all arrays m number 0 body params) n ≡ Some t → t.access.writes ≡ true → IsByTarget arrays number body t

-- A target that is a cell is one of an array of the run.
abbrev pub TargetsAreKnown : Type 0
TargetsAreKnown = (arrays : List Array) (number : Word → ℕ) (body : PlainStmts) (params : Vars) → AreCountable arrays number body params →
    (k : ℕ) (x : Word) (at : PlainExprs) → target_at body k ≡ cell x at → (vs : Vars) × IsCell arrays number x at vs

-- The piece of a number is that of the assignment with this number.
abbrev pub PiecesAreByTargets : Type 0
PiecesAreByTargets = (number : Word → ℕ) (texts : Word → PlainExprs) (body : PlainStmts) (k : ℕ) →
    piece_at (site_pieces_all number texts body 0 body) k ≡ site_piece number texts body k (target_at body k)

-- ---- passes count

-- the passes of a source: the piece of each assignment to an array that isn't inspected counts the uses of its writes, and the pass of such an array those of its initial cells
pub record PassesArePieces (sc : Scope) (arrays : List Array) (number : Word → ℕ) (texts : Word → PlainExprs) (body : PlainStmts) (vs : Vars) (whole : List Tagged) : Type 0 where
  pub at_sites : (k : ℕ) → is_inspected number body (target_at body k) ≡ false → IsSitePiece sc whole k (piece_at (site_pieces_all number texts body 0 body) k)
  pub at_cells : (a : ℕ) (extents : PlainExprs) → inspects_all number a body ≡ false → rank extents ≡ length (extents_at arrays a) → rank extents < 2 ^ 64 →
      IsCellPiece sc whole vs (extents_at arrays a) a (cell_piece number body a extents)

-- Whatever memory is then, the passes of a source count over its list of accesses from memory m.
abbrev pub PassesCount : Type 0
PassesCount = (sc : Scope) (arrays : List Array) (m : Memory) (number : Word → ℕ) (texts : Word → PlainExprs) (body : PlainStmts) (vs : Vars) →
    HasCounters sc.wides → AreOwn vs → AreCountable arrays number body vs → length (tagged_all arrays m number 0 body vs) < 2 ^ 63 →
    PassesArePieces sc arrays number texts body vs (tagged_all arrays m number 0 body vs)

-- ---- units

-- each array has fewer than 2^64 extents
abbrev pub HaveRanks : List (Word × PlainExprs) → Type 0
HaveRanks [] = Unit {0}
HaveRanks (x ∷ more) = (rank x.1 < 2 ^ 64) × HaveRanks more

-- The wide names of an instrumented unit have the count, and no word of a pass.
abbrev pub UnitsHaveCounters : Type 0
UnitsHaveCounters = (u : PlainUnit) → HasCounters (guarded u).wides
