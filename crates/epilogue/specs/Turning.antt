-- The turns of tables and a prologue, by those of its pieces.
use Rattle.std.specs.Prelude.{ℕ, ◌+◌, List, ◌++◌, ℤ, Option}
use Rattle.c_tree.specs.Plain.{PlainExprs, PlainStmt, PlainUnit}
use Rattle.c_tree.specs.Trees.{stmts_of}
use Rattle.c_tree.specs.Arrays.{vars_of}
use Rattle.c_tree.specs.Fault.{Upset}
use Rattle.c_tree.specs.Inputs.{PlainInputs, arrays_for, Fit}
use Rattle.c_tree.specs.Run.{State, exec_all}
use Rattle.instrumentation.specs.Guarded.{arrays_with_extents}
use Rattle.instrumentation.specs.Prologue.{prologue_text}
use Rattle.instrumentation_laws.specs.RegularUnits.{wides_for}
use Rattle.instrumentation_laws.specs.Setting.{scope_of}
use Rattle.pass_laws.specs.Going.{WhereGoing, Makes}
use Rattle.pass_laws.specs.PrologueTurns.{PiecesMake, walks_with}

-- For all inputs that fit and under every fault: tables and prologue make the turns of the tables once, those of a walk over the cells of each array, and those of the pieces, wherever they go on.
abbrev pub Turns : PlainUnit → List PlainStmt → (ℕ → PlainExprs → List PlainStmt) → Type 0
Turns u tables cells = (i : PlainInputs) (fault : Option Upset) (m : ℕ) (n : ℕ → List ℤ → ℕ) (s : State) → Fit u i →
    WhereGoing (Makes m s) (exec_all (scope_of (arrays_for u i.ints) (wides_for u) fault) (stmts_of tables) (vars_of u.params i.ints) s) →
    PiecesMake (scope_of (arrays_for u i.ints) (wides_for u) fault) (vars_of u.params i.ints) cells n 0 (arrays_with_extents u.params) →
    WhereGoing (Makes (m + walks_with n 0 (arrays_for u i.ints)) s) (exec_all (scope_of (arrays_for u i.ints) (wides_for u) fault) (stmts_of (tables ++ prologue_text cells 0 (arrays_with_extents u.params))) (vars_of u.params i.ints) s)
