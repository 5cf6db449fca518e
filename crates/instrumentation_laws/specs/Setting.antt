-- An instrumented text in its surroundings: the arrays of the run, the names that it declares, and pieces that count.
use Rattle.std.specs.Prelude.{◌≡◌, ℕ, Bool, ◌^◌, ◌<◌, true, false, List, [], ◌∷◌, ◌++◌, ℤ, Option}
use Rattle.c_tree.specs.Plain.{Word, PlainExprs, PlainStmt, begin, PlainStmts}
use Rattle.c_tree.specs.Values.{Vars}
use Rattle.c_tree.specs.Arrays.{Array}
use Rattle.c_tree.specs.Fault.{Upset}
use Rattle.c_tree.specs.Run.{State, Outcome, goes_on, ends, Scope}
use Rattle.instrumentation.specs.Names.{use_total, definition_total}
use Rattle.instrumentation.specs.Body.{instrument_all}
use Rattle.instrumentation.specs.Guarded.{extents_from}
use Rattle.instrumentation.specs.Inspects.{inspects_all}
use Rattle.instrumentation.specs.Prologue.{prologue_text}
use Rattle.instrumentation_laws.specs.OwnNames.{own, AllMayLoop}
use Rattle.instrumentation_laws.specs.RegularSources.{IsArray}
use Rattle.instrumentation_laws.specs.Sources.{AreSource}
use Rattle.instrumentation_laws.specs.Pieces.{Declares, Piece}
use Rattle.instrumentation_laws.specs.PrologueTotals.{AreDeclared, AreGoing}

-- The text: prologue, begin, instrumented body. A piece for the cells of each array, by its number and extents, and one for each assignment, by its number.
abbrev pub text : List (Word × PlainExprs) → (ℕ → PlainExprs → List PlainStmt) → (Word → ℕ) → (ℕ → List PlainStmt) → PlainStmts → List PlainStmt
text decls cells number pieces body = prologue_text cells 0 decls ++ (begin ∷ instrument_all number (extents_from decls) pieces 0 body)

-- behind the tables of inspected arrays
abbrev pub text_after : List PlainStmt → List (Word × PlainExprs) → (ℕ → PlainExprs → List PlainStmt) → (Word → ℕ) → (ℕ → List PlainStmt) → PlainStmts → List PlainStmt
text_after tables decls cells number pieces body = tables ++ text decls cells number pieces body

abbrev pub scope_of : List Array → List Word → Option Upset → Scope
scope_of arrays wides fault = record { arrays = arrays; wides = wides; fault = fault }

-- the arrays that are read by index cells
abbrev pub inspected_in : (Word → ℕ) → PlainStmts → ℕ → Bool
inspected_in number body a = inspects_all number a body

-- nothing that the source knows of was changed, nor a total
pub record Untouched (s t : State) : Type 0 where
  pub begun : t.begun ≡ s.begun
  pub memory : t.memory ≡ s.memory
  pub accesses : t.accesses ≡ s.accesses
  pub wides : t.wides ≡ s.wides
  pub words : (x : Word) → own x ≡ true → t.words x ≡ s.words x

abbrev pub GoesUntouched : State → Outcome (Unit {0}) → Type 0
GoesUntouched s (goes_on u t) = Untouched s t
GoesUntouched s (ends e t) = ⊥

-- a source, its arrays as they are declared, and pieces that go on, whatever they count
pub record GoingSetting (arrays : List Array) (number : Word → ℕ) (wides : List Word) (fault : Option Upset) (vs : Vars) (extents : ℕ → List ℤ) (decls : List (Word × PlainExprs))
    (body : PlainStmts) (cells : ℕ → PlainExprs → List PlainStmt) (pieces : ℕ → List PlainStmt) : Type 0 where
  pub names : Declares arrays number wides
  pub vars : AllMayLoop vs
  pub declared : AreDeclared arrays number vs extents 0 decls
  pub sizes : (x : Word) (a : IsArray arrays number x) → a.array.1.extents ≡ extents a.array.0
  pub source : AreSource arrays number (extents_from decls) (inspected_in number body) body vs
  pub pieces_go : (k : ℕ) → Piece (scope_of arrays wides fault) (pieces k)
  pub cells_go : AreGoing (scope_of arrays wides fault) cells 0 decls

-- a state in which a text starts
pub record IsStart (s : State) : Type 0 where
  pub begun : s.begun ≡ false
  pub accesses : s.accesses ≡ []
  pub used : (b : ℕ) → b < 2 ^ 64 → s.wides (use_total b) ≡ 0
  pub defined : (b : ℕ) → b < 2 ^ 64 → s.wides (definition_total b) ≡ 0
