-- Pieces: the statements of an instrumented text that set the number of uses of a definition. The laws ask these facts of them, and nothing of how they count.
use Rattle.std.specs.Prelude.{◌≡◌, ℕ, true, false, List, bytes_eq, slice_get, Some}
use Rattle.std.specs.List.{list_any}
use Rattle.c_tree.specs.Plain.{Word, PlainStmt}
use Rattle.c_tree.specs.Trees.{stmts_of}
use Rattle.c_tree.specs.Values.{Vars}
use Rattle.c_tree.specs.Arrays.{Array}
use Rattle.c_tree.specs.Accesses.{Definition, uses}
use Rattle.c_tree.specs.Accesses.Definition.{Written}
use Rattle.c_tree.specs.Instances.{Tagged, untagged}
use Rattle.c_tree.specs.Run.{State, goes_on, Scope, exec_all}
use Rattle.instrumentation.specs.Names.{register, result, count, use_total, definition_total}
use Rattle.instrumentation_laws.specs.OwnNames.{own, piece_word, AllMayLoop}
use Rattle.instrumentation_laws.specs.RegularSources.{IsArray}

-- the wide names of a text hold the totals of its arrays, and no word
pub record Declares (arrays : List Array) (number : Word → ℕ) (wides : List Word) : Type 0 where
  pub used : (x : Word) (a : IsArray arrays number x) → list_any (bytes_eq (use_total a.array.0)) wides ≡ true
  pub defined : (x : Word) (a : IsArray arrays number x) → list_any (bytes_eq (definition_total a.array.0)) wides ≡ true
  pub registers : (j : ℕ) → list_any (bytes_eq (register j)) wides ≡ false
  pub stored_word : list_any (bytes_eq result) wides ≡ false
  pub own_words : (x : Word) → own x ≡ true → list_any (bytes_eq x) wides ≡ false

-- a piece always goes on; it makes no access, and sets the count and words of pieces alone
pub record Piece (sc : Scope) (p : List PlainStmt) : Type 0 where
  pub to : Vars → State → State
  pub goes : (vs : Vars) → AllMayLoop vs → (s : State) → exec_all sc (stmts_of p) vs s ≡ goes_on tt (to vs s)
  pub memory : (vs : Vars) (s : State) → (to vs s).memory ≡ s.memory
  pub accesses : (vs : Vars) (s : State) → (to vs s).accesses ≡ s.accesses
  pub begun : (vs : Vars) (s : State) → (to vs s).begun ≡ s.begun
  pub words : (vs : Vars) (s : State) (x : Word) → piece_word x ≡ false → (to vs s).words x ≡ s.words x
  pub wides : (vs : Vars) (s : State) (x : Word) → bytes_eq count x ≡ false → (to vs s).wides x ≡ s.wides x

-- how often a definition is read
abbrev pub uses_in : List Tagged → Definition → ℕ
uses_in whole d = uses (untagged whole) d

-- the piece of assignment k counts the uses of the writes that it makes
pub record Counts (sc : Scope) (whole : List Tagged) (k : ℕ) (p : List PlainStmt) (piece : Piece sc p) : Type 0 where
  pub counts : (n : ℕ) (t : Tagged) (s : State) → AllMayLoop t.vars → slice_get whole n ≡ Some t → t.site ≡ k → t.access.writes ≡ true →
      (piece.to t.vars s).wides count ≡ uses_in whole (Written n)

pub record IsSitePiece (sc : Scope) (whole : List Tagged) (k : ℕ) (p : List PlainStmt) : Type 0 where
  pub piece : Piece sc p
  pub counts : Counts sc whole k p piece
