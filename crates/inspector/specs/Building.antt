-- What making the tables of an inspected array does.
use Rattle.std.specs.Prelude.{◌≡◌, ◌⊎◌, ℕ, ◌+◌, ◌*◌, false, true, List, [], ◌∷◌, ◌++◌, slice_index, ℤ, Option}
use Rattle.c_tree.specs.Plain.{Word, PlainExpr, lit, var, cell, un, bin, cast, test, umin, umax, least, greatest, widen, big, PlainExprs, no_exprs, more_exprs, PlainTest, PlainStmt, loop, choice, assign, table, begin, check, verdict, PlainStmts, no_stmts, more_stmts, PlainUnit}
use Rattle.c_tree.specs.Trees.{stmts_of}
use Rattle.c_tree.specs.Arrays.{Memory, cell_count, extents_at, vars_of}
use Rattle.c_tree.specs.Accesses.{Access, Definition, uses, writes_of}
use Rattle.c_tree.specs.Fault.{Upset}
use Rattle.c_tree.specs.Instances.{accesses}
use Rattle.c_tree.specs.Inputs.{PlainInputs, arrays_for, memory_for, Fit, IsSound}
use Rattle.c_tree.specs.Run.{State, Scope, End, exec_all, turns}
use Rattle.instrumentation.specs.Names.{written, current, counts}
use Rattle.instrumentation_laws.specs.RegularUnits.{number_for, wides_for}
use Rattle.instrumentation_laws.specs.Setting.{scope_of}
use Rattle.pass_laws.specs.Turns.{turns_all}
use Rattle.inspection_laws.specs.Inspected.{IsIts, number_of}
use Rattle.inspection_laws.specs.Laws.{Holds, EndsAtFirst}
use Rattle.inspection_laws.specs.Misses.{misses_in, misses_all}
use Rattle.inspection_laws.specs.Walked.{Built}
use Rattle.guard_laws.specs.IndexArrays.{is_index_array}

-- where the lists run: among the arrays of the source, under a fault
abbrev pub scope_for : PlainUnit → PlainInputs → Option Upset → Scope
scope_for u i fault = scope_of (arrays_for u i.ints) (wides_for u) fault

-- the source's accesses over its inputs
abbrev pub list_of : PlainUnit → PlainInputs → List Access
list_of u i = accesses u i.ints (memory_for u i)

abbrev pub extents_for : PlainUnit → PlainInputs → ℕ → List ℤ
extents_for u i array = extents_at (arrays_for u i.ints) array

-- a memory whose index arrays are those of the inputs
abbrev pub HasIndexArraysOf : PlainUnit → PlainInputs → Memory → Type 0
HasIndexArraysOf u i m = (a : ℕ) (cs : List ℤ) → is_index_array u a ≡ true → m a cs ≡ memory_for u i a cs

-- why the tables of an array can't be made: its accesses with an index cell outside its index array, or with a coordinate from an index cell outside its extent, in order, each as the end that it makes
abbrev pub misses_of : PlainUnit → PlainInputs → ℕ → List End
misses_of u i array = misses_all (misses_in (arrays_for u i.ints) (memory_for u i) (number_for u) array (extents_for u i array)) u.body (vars_of u.params i.ints)

-- For all inputs that fit, over every memory that has their index arrays and under every fault: it goes on where there is none, and else ends the run as the first of them says.
abbrev pub EndsExactly : PlainUnit → ℕ → List PlainStmt → Type 0
EndsExactly u array p = (i : PlainInputs) (fault : Option Upset) (s : State) → Fit u i → HasIndexArraysOf u i s.memory → s.begun ≡ false →
    EndsAtFirst (misses_of u i array) s (2 * turns_all u.body (vars_of u.params i.ints)) (exec_all (scope_for u i fault) (stmts_of p) (vars_of u.params i.ints) s)

-- The tables of the array hold the uses of its definitions, and so many of its writes were counted.
pub record Stands (u : PlainUnit) (i : PlainInputs) (array n : ℕ) (s : State) : Type 0 where
  pub counted : (d : Definition) → IsIts (list_of u i) array (extents_for u i array) d → slice_index (s.tables (counts array)) (number_of (list_of u i) array (extents_for u i array) d) ≡ uses (list_of u i) d
  pub writes : s.words (written array) ≡ n

-- Two tables were made, with an entry for each cell, and with one for each cell and each write, in twice the source's turns; no access was made, and of the state nothing else was changed but words of tables.
pub record Makes (u : PlainUnit) (i : PlainInputs) (array : ℕ) (from t : State) : Type 0 where
  pub built : Built (list_of u i) array (extents_for u i array) from t
  pub lengths : t.made ≡ from.made ++ cell_count (extents_for u i array) ∷ (cell_count (extents_for u i array) + writes_of (list_of u i) array) ∷ []
  pub stands : Stands u i array 0 t
  pub turns : t.prologue_turns ≡ from.prologue_turns + 2 * turns u i
  pub body : t.body_turns ≡ from.body_turns

-- So it is for sound inputs, over every memory that has their index arrays and under every fault.
abbrev pub MakesTables : PlainUnit → ℕ → List PlainStmt → Type 0
MakesTables u array p = (i : PlainInputs) (fault : Option Upset) (s : State) → IsSound u i → HasIndexArraysOf u i s.memory → s.begun ≡ false →
    Holds (Makes u i array s) (exec_all (scope_for u i fault) (stmts_of p) (vars_of u.params i.ints) s)

-- ---- which cells it names

-- the names of all cells in an expression, those in subscripts too
abbrev mutual
  pub Names : (Word → Type 0) → PlainExpr → Type 0
  Names P (lit n) = Unit {0}
  Names P (var x) = Unit {0}
  Names P (cell x at) = P x × AllName P at
  Names P (un op a) = Names P a
  Names P (bin op a b) = Names P a × Names P b
  Names P (cast a) = Names P a
  Names P (test rel a b) = Names P a × Names P b
  Names P (umin a b) = Names P a × Names P b
  Names P (umax a b) = Names P a × Names P b
  Names P (least a b) = Names P a × Names P b
  Names P (greatest a b) = Names P a × Names P b
  Names P (widen a) = Names P a
  Names P (big high low) = Unit {0}

  pub AllName : (Word → Type 0) → PlainExprs → Type 0
  AllName P no_exprs = Unit {0}
  AllName P (more_exprs e es) = Names P e × AllName P es

abbrev pub TestsName : (Word → Type 0) → List PlainTest → Type 0
TestsName P [] = Unit {0}
TestsName P (t ∷ ts) = (Names P t.1 × Names P t.2) × TestsName P ts

-- a word, or an entry of such a table
abbrev pub IsTarget : (Word → Type 0) → PlainExpr → Type 0
IsTarget Q (var x) = Unit {0}
IsTarget Q (cell x at) = Q x
IsTarget Q _ = ⊥

-- Each cell in it has a name of the first kind, and each cell that is stored into one of the second.
abbrev mutual
  pub Uses : (Word → Type 0) → (Word → Type 0) → PlainStmt → Type 0
  Uses P Q (loop x lo rel hi body) = Names P lo × Names P hi × AllUse P Q body
  Uses P Q (choice ts first other) = TestsName P ts × AllUse P Q first × AllUse P Q other
  Uses P Q (assign t op e) = IsTarget Q t × Names P t × Names P e
  Uses P Q (table x len) = Q x × Names P len
  Uses P Q begin = ⊥
  Uses P Q (check x extent a) = Names P extent
  Uses P Q verdict = ⊥

  pub AllUse : (Word → Type 0) → (Word → Type 0) → PlainStmts → Type 0
  AllUse P Q no_stmts = Unit {0}
  AllUse P Q (more_stmts s ss) = Uses P Q s × AllUse P Q ss

-- the name of a table of the array
abbrev pub IsTable : ℕ → Word → Type 0
IsTable array x = (x ≡ current array) ⊎ (x ≡ counts array)

-- Of arrays it reads index arrays alone, and it stores into none.
abbrev pub ReadsIndexArrays : PlainUnit → ℕ → List PlainStmt → Type 0
ReadsIndexArrays u array p = AllUse (λ x. IsTable array x ⊎ (is_index_array u (number_for u x) ≡ true)) (IsTable array) (stmts_of p)

-- ---- together

pub record Builds (u : PlainUnit) (array : ℕ) (p : List PlainStmt) : Type 0 where
  pub ends : EndsExactly u array p
  pub makes : MakesTables u array p
  pub reads : (i : PlainInputs) → Fit u i → ReadsIndexArrays u array p
