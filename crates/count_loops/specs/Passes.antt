-- The pass of a definition, and what it does.
use Rattle.std.specs.Prelude.{◌≡◌, ◌≢◌, ℕ, true, List, Option, Some, slice_get}
use Rattle.c_tree.specs.Names.{arrays_in}
use Rattle.c_tree.specs.Plain.{Word, PlainStmt, PlainUnit}
use Rattle.c_tree.specs.Trees.{stmts_of}
use Rattle.c_tree.specs.Values.{Vars}
use Rattle.c_tree.specs.Arrays.{extents_at, vars_of}
use Rattle.c_tree.specs.Fault.{Upset}
use Rattle.c_tree.specs.Instances.{Tagged, untagged, accesses}
use Rattle.c_tree.specs.Inputs.{PlainInputs, arrays_for, memory_for, IsSound}
use Rattle.c_tree.specs.Run.{Scope, State, exec_all, turns}
use Rattle.instrumentation.specs.Guarded.{arrays_with_extents}
use Rattle.instrumentation.specs.Passes.{cell_piece}
use Rattle.instrumentation_laws.specs.IndexedList.{tagged_all}
use Rattle.instrumentation_laws.specs.Pieces.{IsSitePiece}
use Rattle.instrumentation_laws.specs.PrologueTotals.{IsCellPiece}
use Rattle.instrumentation_laws.specs.RegularUnits.{number_for, wides_for}
use Rattle.instrumentation_laws.specs.Setting.{scope_of}
use Rattle.pass_laws.specs.Going.{GoesTo, Turned}
use Rattle.pass_laws.specs.Places.{IsPlace}
use Rattle.sites.specs.Classes.{class_of}
use Rattle.sites.specs.Sites.{Site, all_sites}
use Rattle.sites.specs.declared.class.Class.TheVariants.{Inspected}
use Rattle.unit_builder.specs.Parts.{array_piece, pass_at}
use Rattle.count_loops.specs.Assignments.{assignment_of}
use Rattle.count_loops.specs.declared.start.Start.{Start}
use Rattle.count_loops.specs.declared.start.Start.TheVariants.{Cell, Write}

-- there is such an array, and its class isn't Inspected
pub record IsUninspected (u : PlainUnit) (array : ℕ) : Type 0 where
  pub name : Word
  pub there : slice_get (arrays_in u.params) array ≡ Some name
  pub class_is : class_of u name ≢ Inspected

-- a write site of an array, by its number
pub record IsWriteOf (u : PlainUnit) (array site : ℕ) : Type 0 where
  pub found : Site
  pub there : slice_get (all_sites u) site ≡ Some found
  pub writes : found.reach.writes ≡ true
  pub named : slice_get (arrays_in u.params) array ≡ Some found.reach.name

-- a start at a write names a write site of the array
abbrev pub IsStart : PlainUnit → ℕ → Start → Type 0
IsStart u array Cell = Unit {0}
IsStart u array (Write site) = IsWriteOf u array site.0

-- the pass from the initial cells of an array, by the coordinates of the prologue, or from a write
abbrev pub pass_of : PlainUnit → ℕ → Start → List PlainStmt
pass_of u array Cell = array_piece (cell_piece (number_for u) u.body) array 0 (arrays_with_extents u.params)
pass_of u array (Write site) = pass_at (number_for u) u.body (assignment_of u.body site.0)

-- where it runs: among the arrays of the source, under a fault
abbrev pub scope_for : PlainUnit → PlainInputs → Option Upset → Scope
scope_for u i fault = scope_of (arrays_for u i.ints) (wides_for u) fault

-- the accesses of the source over its inputs, each with its assignment and the values of the loops around it
abbrev pub list_of : PlainUnit → PlainInputs → List Tagged
list_of u i = tagged_all (arrays_for u i.ints) (memory_for u i) (number_for u) 0 u.body (vars_of u.params i.ints)

-- the pieces that count over this list
abbrev pub CountsOver : PlainUnit → ℕ → Start → List PlainStmt → PlainInputs → Option Upset → Type 0
CountsOver u array Cell p i fault = IsCellPiece (scope_for u i fault) (list_of u i) (vars_of u.params i.ints) (extents_at (arrays_for u i.ints) array) array p
CountsOver u array (Write site) p i fault = IsSitePiece (scope_for u i fault) (list_of u i) (assignment_of u.body site.0) p

-- For sound inputs and under every fault it goes on, makes no access, changes the count and words of passes alone, and sets the count to the uses of its definition in the source's accesses.
pub record CountsUses (u : PlainUnit) (array : ℕ) (start : Start) (p : List PlainStmt) : Type 0 where
  pub listed : (i : PlainInputs) → IsSound u i → untagged (list_of u i) ≡ accesses u i.ints (memory_for u i)
  pub counts : (i : PlainInputs) (fault : Option Upset) → IsSound u i → CountsOver u array start p i fault

-- At its place, from every state, it makes exactly the turns of the source's run.
abbrev pub TurnsAsSource : PlainUnit → List PlainStmt → Type 0
TurnsAsSource u p = (i : PlainInputs) (fault : Option Upset) (base : Vars) (s : State) → IsSound u i → IsPlace (vars_of u.params i.ints) base →
    GoesTo (Turned (turns u i) s) (exec_all (scope_for u i fault) (stmts_of p) base s)
