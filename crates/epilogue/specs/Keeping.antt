-- What a prologue leaves as it is: every name but its own, the first register and the definition totals.
use Rattle.std.specs.Prelude.{◌≡◌, ℕ, suc, Bool, true, false, List, [], ◌∷◌, ◌++◌, ℤ, Option, bytes_eq}
use Rattle.c_tree.specs.Plain.{Word, PlainExprs, PlainStmt, PlainUnit}
use Rattle.c_tree.specs.Trees.{stmts_of}
use Rattle.c_tree.specs.Values.{Vars}
use Rattle.c_tree.specs.Accesses.{Within}
use Rattle.c_tree.specs.Arrays.{extents_of, vars_of}
use Rattle.c_tree.specs.Fault.{Upset}
use Rattle.c_tree.specs.Inputs.{PlainInputs, arrays_for, Fit}
use Rattle.c_tree.specs.Run.{State, Scope, exec_all}
use Rattle.instrumentation.specs.Guarded.{arrays_with_extents}
use Rattle.instrumentation.specs.Names.{register, definition_total}
use Rattle.instrumentation.specs.Prologue.{prologue_text}
use Rattle.instrumentation_laws.specs.PrologueTotals.{coordinate_vars}
use Rattle.instrumentation_laws.specs.RegularUnits.{wides_for}
use Rattle.instrumentation_laws.specs.Setting.{scope_of}
use Rattle.pass_laws.specs.Going.{WhereGoing}

-- a name that a prologue itself doesn't assign
abbrev pub IsOther : Word → Type 0
IsOther x = (bytes_eq (register 0) x ≡ false) × ((a : ℕ) → bytes_eq (definition_total a) x ≡ false)

-- words, wide names and tables of such names are the same
pub record SameOthers (s t : State) : Type 0 where
  pub words : (x : Word) → IsOther x → t.words x ≡ s.words x
  pub wides : (x : Word) → IsOther x → t.wides x ≡ s.wides x
  pub tables : (x : Word) → t.tables x ≡ s.tables x

-- a statement on the words, wide names and tables of such names alone
abbrev pub IsOfOthers : (State → Bool) → Type 0
IsOfOthers holds = (s t : State) → SameOthers s t → holds t ≡ holds s

-- At each cell of the arrays from number a on the piece of the array keeps the statement true, wherever it goes on.
abbrev pub PiecesKeep : Scope → Vars → (State → Bool) → (ℕ → PlainExprs → List PlainStmt) → ℕ → List (Word × PlainExprs) → Type 0
PiecesKeep sc vs holds cells a [] = Unit {0}
PiecesKeep sc vs holds cells a (x ∷ more) =
    ((cs : List ℤ) (s : State) → Within (extents_of vs x.1) cs → holds s ≡ true → WhereGoing (λ t. holds t ≡ true) (exec_all sc (stmts_of (cells a x.1)) (coordinate_vars 0 cs vs) s)) × PiecesKeep sc vs holds cells (suc a) more

-- For all inputs that fit and under every fault: what is true of other names behind the tables, and stays so in each piece, is true behind the prologue, so that the prologue itself changes none of these names.
abbrev pub KeepsOthers : PlainUnit → List PlainStmt → (ℕ → PlainExprs → List PlainStmt) → Type 0
KeepsOthers u tables cells = (i : PlainInputs) (fault : Option Upset) (holds : State → Bool) (s : State) → Fit u i → IsOfOthers holds →
    WhereGoing (λ t. holds t ≡ true) (exec_all (scope_of (arrays_for u i.ints) (wides_for u) fault) (stmts_of tables) (vars_of u.params i.ints) s) →
    PiecesKeep (scope_of (arrays_for u i.ints) (wides_for u) fault) (vars_of u.params i.ints) holds cells 0 (arrays_with_extents u.params) →
    WhereGoing (λ t. holds t ≡ true) (exec_all (scope_of (arrays_for u i.ints) (wides_for u) fault) (stmts_of (tables ++ prologue_text cells 0 (arrays_with_extents u.params))) (vars_of u.params i.ints) s)
