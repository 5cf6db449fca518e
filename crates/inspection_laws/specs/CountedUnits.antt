-- Whole sources that counting passes and tables can count, and what the pieces of their instrumented units are.
use Rattle.std.specs.Prelude.{◌≡◌, ℕ, suc, ◌^◌, ◌<◌, true, if◌then◌else◌, List, [], ◌∷◌, length, ℤ, Option}
use Rattle.c_tree.specs.Plain.{Word, PlainExprs, PlainStmts, PlainUnit}
use Rattle.c_tree.specs.Values.{Vars}
use Rattle.c_tree.specs.Arrays.{Memory, extents_at, vars_of}
use Rattle.c_tree.specs.Accesses.{Clean}
use Rattle.c_tree.specs.Fault.{Upset}
use Rattle.c_tree.specs.Instances.{untagged}
use Rattle.c_tree.specs.Inputs.{arrays_for}
use Rattle.instrumentation.specs.Inspects.{inspects_all}
use Rattle.instrumentation.specs.Pieces.{initial_piece, site_pieces_all, piece_at, builds}
use Rattle.instrumentation.specs.Guarded.{arrays_with_extents, array_names, extents_of, guarded}
use Rattle.instrumentation_laws.specs.OwnNames.{own}
use Rattle.instrumentation_laws.specs.IndexedList.{tagged_all}
use Rattle.instrumentation_laws.specs.Pieces.{Piece}
use Rattle.instrumentation_laws.specs.PrologueTotals.{AreGoing}
use Rattle.instrumentation_laws.specs.RegularUnits.{number_for, wides_for}
use Rattle.instrumentation_laws.specs.Setting.{scope_of}
use Rattle.instrumentation_laws.specs.Kept.{Kept}
use Rattle.instrumentation_laws.specs.KeptUnits.{HasKeptPieces}
use Rattle.pass_laws.specs.Countable.{AreOwn, AreCountable}
use Rattle.pass_laws.specs.Laws.{HaveRanks}
use Rattle.inspection_laws.specs.AllTables.{Named}
use Rattle.inspection_laws.specs.Walked.{AreWalked, AreExtents, HasTables}

-- the inspected ones among the arrays from number a on, with their extents as they are declared
abbrev pub inspected_from : (Word → ℕ) → PlainStmts → ℕ → List (Word × PlainExprs) → Named
inspected_from number body a [] = []
inspected_from number body a (x ∷ more) = if inspects_all number a body then (a, x.1) ∷ inspected_from number body (suc a) more else inspected_from number body (suc a) more

-- each of these has small extents
abbrev pub HaveExtents : (Word → ℕ) → PlainStmts → (ℕ → List ℤ) → Vars → ℕ → List (Word × PlainExprs) → Type 0
HaveExtents number body extents vs a [] = Unit {0}
HaveExtents number body extents vs a (x ∷ more) = (inspects_all number a body ≡ true → AreExtents x.1 (extents a) vs) × HaveExtents number body extents vs (suc a) more

-- names of the source
abbrev pub AllOwn : List Word → Type 0
AllOwn [] = Unit {0}
AllOwn (x ∷ xs) = (own x ≡ true) × AllOwn xs

-- Where the arrays have names of the source, the names of tables are no arrays', and their words not wide.
abbrev pub NamesHaveTables : Type 0
NamesHaveTables = (u : PlainUnit) (ns : List ℤ) → AllOwn (array_names u.params) → (a : ℕ) → HasTables (arrays_for u ns) (wides_for u) a

-- a source that passes and tables can count, for these parameters and from every memory
pub record IsCountableUnit (u : PlainUnit) (ns : List ℤ) : Type 0 where
  pub params : AreOwn (vars_of u.params ns)
  pub tables : (a : ℕ) → HasTables (arrays_for u ns) (wides_for u) a
  pub few : length (array_names u.params) < 2 ^ 64
  pub ranks : HaveRanks (arrays_with_extents u.params)
  pub countable : AreCountable (arrays_for u ns) (number_for u) u.body (vars_of u.params ns)
  pub walked : AreWalked (arrays_for u ns) (number_for u) u.body (vars_of u.params ns)
  pub extents : HaveExtents (number_for u) u.body (extents_at (arrays_for u ns)) (vars_of u.params ns) 0 (arrays_with_extents u.params)

-- what the tables keep, and that all pieces of the unit count from it
pub record CountsFromTables (u : PlainUnit) (ns : List ℤ) (m : Memory) (fault : Option Upset) : Type 0 where
  pub kept : Kept
  pub pieces : HasKeptPieces u (guarded u) ns m fault kept (builds (number_for u) u.body 0 (arrays_with_extents u.params)) (initial_piece (number_for u) u.body)
      (piece_at (site_pieces_all (number_for u) (extents_of u.params) u.body 0 u.body))

-- From a memory over which the source's list is clean and under every fault the tables can be built, and each piece counts: by tables for inspected arrays, by passes for all others.
abbrev pub UnitsCountFromTables : Type 0
UnitsCountFromTables = (u : PlainUnit) (ns : List ℤ) (m : Memory) (fault : Option Upset) → IsCountableUnit u ns →
    Clean (extents_at (arrays_for u ns)) (untagged (tagged_all (arrays_for u ns) m (number_for u) 0 u.body (vars_of u.params ns))) → length (tagged_all (arrays_for u ns) m (number_for u) 0 u.body (vars_of u.params ns)) < 2 ^ 63 →
    CountsFromTables u ns m fault

-- From every memory they go on.
pub record PiecesGoOn (u : PlainUnit) (ns : List ℤ) (fault : Option Upset) : Type 0 where
  pub at_sites : (k : ℕ) → Piece (scope_of (arrays_for u ns) (wides_for u) fault) (piece_at (site_pieces_all (number_for u) (extents_of u.params) u.body 0 u.body) k)
  pub at_cells : AreGoing (scope_of (arrays_for u ns) (wides_for u) fault) (initial_piece (number_for u) u.body) 0 (arrays_with_extents u.params)

abbrev pub UnitsPiecesGoOn : Type 0
UnitsPiecesGoOn = (u : PlainUnit) (ns : List ℤ) (fault : Option Upset) → IsCountableUnit u ns → PiecesGoOn u ns fault
