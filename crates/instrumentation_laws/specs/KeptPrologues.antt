-- What the tables and the prologue of an instrumented text leave.
use Rattle.std.specs.Prelude.{ℕ, List, [], ◌++◌, length, ℤ, Option}
use Rattle.c_tree.specs.Plain.{PlainExprs, PlainStmt, PlainUnit}
use Rattle.c_tree.specs.Trees.{stmts_of}
use Rattle.c_tree.specs.Arrays.{extents_at, vars_of}
use Rattle.c_tree.specs.Fault.{Upset}
use Rattle.c_tree.specs.Instances.{Tagged}
use Rattle.c_tree.specs.Inputs.{arrays_for}
use Rattle.c_tree.specs.Run.{State, Outcome, goes_on, ends, exec_all}
use Rattle.instrumentation.specs.Guarded.{arrays_with_extents}
use Rattle.instrumentation.specs.Prologue.{prologue_text}
use Rattle.instrumentation_laws.specs.Kept.{Kept, Ready, IsKept, AreCellPieces}
use Rattle.instrumentation_laws.specs.KeptTexts.{GoesPrepared}
use Rattle.instrumentation_laws.specs.KeptUnits.{IsWellFormed}
use Rattle.instrumentation_laws.specs.PrologueTotals.{Left}
use Rattle.instrumentation_laws.specs.RegularUnits.{wides_for}
use Rattle.instrumentation_laws.specs.Setting.{scope_of, IsStart}

-- the run goes on to such a state
abbrev pub GoesOnTo : (State → Type 0) → Outcome (Unit {0}) → Type 0
GoesOnTo P (goes_on u t) = P t
GoesOnTo P (ends e t) = ⊥

-- Under every fault, from each state in which a text starts and its tables can be built: where each piece sets the count to the uses of the initial cell in a list of accesses, tables and prologue go on.
-- They make no access that counts and leave the memory and the words of the source as they are, and each definition total is then the sum over the cells of value times uses. What pieces rely on stays as the tables left it.
abbrev pub KeptProloguesFill : Type 0
KeptProloguesFill = (u : PlainUnit) (ns : List ℤ) (fault : Option Upset) (kept : Kept) (tables : List PlainStmt) (cells : ℕ → PlainExprs → List PlainStmt) (whole : List Tagged) (s : State) →
    IsWellFormed u ns → IsKept kept → GoesPrepared kept s (exec_all (scope_of (arrays_for u ns) (wides_for u) fault) (stmts_of tables) (vars_of u.params ns) s) →
    AreCellPieces kept (scope_of (arrays_for u ns) (wides_for u) fault) whole (vars_of u.params ns) (extents_at (arrays_for u ns)) cells 0 (arrays_with_extents u.params) → IsStart s →
    GoesOnTo (λ t. Left whole (extents_at (arrays_for u ns)) 0 (length (arrays_with_extents u.params)) s t × Ready kept [] t)
    (exec_all (scope_of (arrays_for u ns) (wides_for u) fault) (stmts_of (tables ++ prologue_text cells 0 (arrays_with_extents u.params))) (vars_of u.params ns) s)
