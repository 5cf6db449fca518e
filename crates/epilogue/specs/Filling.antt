-- What tables and a prologue leave.
use Rattle.std.specs.Prelude.{ℕ, List, [], ◌++◌, length, Option}
use Rattle.c_tree.specs.Plain.{PlainExprs, PlainStmt, PlainUnit}
use Rattle.c_tree.specs.Trees.{stmts_of}
use Rattle.c_tree.specs.Arrays.{extents_at, vars_of}
use Rattle.c_tree.specs.Fault.{Upset}
use Rattle.c_tree.specs.Instances.{Tagged}
use Rattle.c_tree.specs.Inputs.{PlainInputs, arrays_for, Fit}
use Rattle.c_tree.specs.Run.{State, exec_all}
use Rattle.instrumentation.specs.Guarded.{arrays_with_extents}
use Rattle.instrumentation.specs.Prologue.{prologue_text}
use Rattle.instrumentation_laws.specs.Kept.{Kept, Ready, IsKept, AreCellPieces}
use Rattle.instrumentation_laws.specs.KeptPrologues.{GoesOnTo}
use Rattle.instrumentation_laws.specs.KeptTexts.{GoesPrepared}
use Rattle.instrumentation_laws.specs.PrologueTotals.{Left}
use Rattle.instrumentation_laws.specs.RegularUnits.{wides_for}
use Rattle.instrumentation_laws.specs.Setting.{scope_of, IsStart}

-- For all inputs that fit and under every fault, from each state in which a text starts and its tables can be built: where each piece sets the count to the uses of the initial cell in a list of accesses, tables and prologue go on.
-- They make no access that counts and leave the memory and the words of the source as they are, and each definition total is then the sum over the cells of value times uses. What pieces rely on stays as the tables left it.
abbrev pub Fills : PlainUnit → Kept → List PlainStmt → (ℕ → PlainExprs → List PlainStmt) → Type 0
Fills u kept tables cells = (i : PlainInputs) (fault : Option Upset) (whole : List Tagged) (s : State) → Fit u i → IsKept kept →
    GoesPrepared kept s (exec_all (scope_of (arrays_for u i.ints) (wides_for u) fault) (stmts_of tables) (vars_of u.params i.ints) s) →
    AreCellPieces kept (scope_of (arrays_for u i.ints) (wides_for u) fault) whole (vars_of u.params i.ints) (extents_at (arrays_for u i.ints)) cells 0 (arrays_with_extents u.params) → IsStart s →
    GoesOnTo (λ t. Left whole (extents_at (arrays_for u i.ints)) 0 (length (arrays_with_extents u.params)) s t × Ready kept [] t)
    (exec_all (scope_of (arrays_for u i.ints) (wides_for u) fault) (stmts_of (tables ++ prologue_text cells 0 (arrays_with_extents u.params))) (vars_of u.params i.ints) s)
