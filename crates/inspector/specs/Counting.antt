-- What taking a count from the tables of an inspected array does.
use Rattle.std.specs.Prelude.{◌≡◌, ℕ, ◌+◌, ◌<◌, true, List, length, ℤ, Option}
use Rattle.c_tree.specs.Plain.{PlainStmt, PlainUnit}
use Rattle.c_tree.specs.Trees.{stmts_of}
use Rattle.c_tree.specs.Values.{Vars}
use Rattle.c_tree.specs.Arrays.{vars_of}
use Rattle.c_tree.specs.Accesses.{uses, Within}
use Rattle.c_tree.specs.Accesses.Definition.{Initial, Written}
use Rattle.c_tree.specs.Fault.{Upset}
use Rattle.c_tree.specs.Inputs.{PlainInputs, Fit, IsSound}
use Rattle.c_tree.specs.Run.{State, goes_on, put, exec_all}
use Rattle.instrumentation.specs.Names.{count, written}
use Rattle.instrumentation_laws.specs.PrologueTotals.{coordinate_vars}
use Rattle.inspection_laws.specs.Inspected.{writes_array, writes_before}
use Rattle.inspection_laws.specs.Walked.{Agrees}
use Rattle.inspector.specs.Building.{scope_for, list_of, extents_for, Stands}

-- For sound inputs and under every fault, from a state whose tables hold the uses, at the coordinates of a cell in the prologue: it sets the count to the uses of the initial cell, and changes nothing else.
abbrev pub CountsInitial : PlainUnit → ℕ → List PlainStmt → Type 0
CountsInitial u array p = (i : PlainInputs) (fault : Option Upset) (n : ℕ) (cs : List ℤ) (s : State) → IsSound u i → Stands u i array n s → Within (extents_for u i array) cs →
    exec_all (scope_for u i fault) (stmts_of p) (coordinate_vars 0 cs (vars_of u.params i.ints)) s ≡ goes_on tt (record s { wides = put s.wides count (uses (list_of u i) (Initial array cs)) })

-- For all inputs that fit and from every state it goes on, and sets the count alone.
abbrev pub SetsCount : PlainUnit → List PlainStmt → Type 0
SetsCount u p = (i : PlainInputs) (fault : Option Upset) (base : Vars) (s : State) → Fit u i →
    (n : ℕ) × (exec_all (scope_for u i fault) (stmts_of p) base s ≡ goes_on tt (record s { wides = put s.wides count n }))

-- For sound inputs and under every fault, at a write of the array, from a state in which each earlier write of it was counted: it sets the count to the uses of this write and counts it, and changes nothing else.
abbrev pub CountsWrite : PlainUnit → ℕ → List PlainStmt → Type 0
CountsWrite u array p = (i : PlainInputs) (fault : Option Upset) (base : Vars) (q : ℕ) (s : State) → IsSound u i → Agrees (vars_of u.params i.ints) base →
    q < length (list_of u i) → writes_array (list_of u i) array q ≡ true → Stands u i array (writes_before (list_of u i) array q) s →
    exec_all (scope_for u i fault) (stmts_of p) base s
    ≡ goes_on tt (record s { wides = put s.wides count (uses (list_of u i) (Written q)); words = put s.words (written array) (writes_before (list_of u i) array q + 1) })

-- For all inputs that fit and from every state it goes on, and sets the count and the number of writes alone.
abbrev pub SetsCountAndWrites : PlainUnit → ℕ → List PlainStmt → Type 0
SetsCountAndWrites u array p = (i : PlainInputs) (fault : Option Upset) (base : Vars) (s : State) → Fit u i →
    (n k : ℕ) × (exec_all (scope_for u i fault) (stmts_of p) base s ≡ goes_on tt (record s { wides = put s.wides count n; words = put s.words (written array) k }))

-- ---- together

pub record IsInitial (u : PlainUnit) (array : ℕ) (p : List PlainStmt) : Type 0 where
  pub counts : CountsInitial u array p
  pub sets : SetsCount u p

pub record IsAtWrite (u : PlainUnit) (array : ℕ) (p : List PlainStmt) : Type 0 where
  pub counts : CountsWrite u array p
  pub sets : SetsCountAndWrites u array p
