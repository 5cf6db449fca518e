-- The pieces of an inspected array count from its tables: at a write, and at an initial cell.
use Rattle.std.specs.Prelude.{◌≡◌, ℕ, ◌^◌, ◌<◌, true, List, [], ◌∷◌, ◌++◌, length, ℤ, Option, slice_index}
use Rattle.c_tree.specs.Plain.{Word, PlainExpr, PlainExprs, no_exprs, more_exprs}
use Rattle.c_tree.specs.Values.{Vars}
use Rattle.c_tree.specs.Arrays.{Array, size_of}
use Rattle.c_tree.specs.Accesses.{Definition, uses, Within}
use Rattle.c_tree.specs.Fault.{Upset}
use Rattle.c_tree.specs.Instances.{Tagged, untagged}
use Rattle.c_tree.specs.Run.{State, Scope, goes_on, word}
use Rattle.instrumentation.specs.Names.{written, counts}
use Rattle.instrumentation.specs.Tables.{words_from, initial, at_write}
use Rattle.instrumentation.specs.Passes.{coordinates_from}
use Rattle.instrumentation_laws.specs.RegularSources.{IsSilent}
use Rattle.instrumentation_laws.specs.PrologueTotals.{coordinate_vars}
use Rattle.instrumentation_laws.specs.Setting.{scope_of}
use Rattle.instrumentation_laws.specs.Kept.{IsKept, IsSitePiece, IsCellPiece}
use Rattle.inspection_laws.specs.Inspected.{IsIts, number_of}
use Rattle.inspection_laws.specs.Inspections.{counts_one_of, tables_kept}
use Rattle.inspection_laws.specs.Walked.{AreSized, HasTables}

-- no cell is read
abbrev pub AllSilent : PlainExprs → Type 0
AllSilent no_exprs = Unit {0}
AllSilent (more_exprs e es) = IsSilent e × AllSilent es

-- numbers of arrays
abbrev pub AreSmall : List ℕ → Type 0
AreSmall [] = Unit {0}
AreSmall (a ∷ more) = (a < 2 ^ 64) × AreSmall more

-- the words of a cell's coordinates
abbrev pub AreGiven : Scope → List PlainExpr → List ℤ → Vars → State → Type 0
AreGiven sc [] [] vs s = Unit {0}
AreGiven sc [] (c ∷ cs) vs s = ⊥
AreGiven sc (w ∷ ws) [] vs s = ⊥
AreGiven sc (w ∷ ws) (c ∷ cs) vs s = (word sc w vs s ≡ goes_on (size_of c) s) × AreGiven sc ws cs vs s

-- the second table of the array holds the uses of its definitions
abbrev pub HoldsUses : List Tagged → ℕ → List ℤ → (Word → List ℕ) → Type 0
HoldsUses whole a es entries = (d : Definition) → IsIts (untagged whole) a es d → slice_index (entries (counts a)) (number_of (untagged whole) a es d) ≡ uses (untagged whole) d

-- No read changes what the tables keep.
abbrev pub TablesAreKept : Type 0
TablesAreKept = (inspected : List ℕ) (entries : Word → List ℕ) → IsKept (tables_kept inspected entries)

-- At an assignment that writes the array, its piece counts the uses of the write, and the write.
abbrev pub WritesCountByTables : Type 0
WritesCountByTables = (arrays : List Array) (wides : List Word) (fault : Option Upset) (a : ℕ) (ns : PlainExprs) (whole : List Tagged) (extents : ℕ → List ℤ) (k : ℕ) (inspected : List ℕ) (entries : Word → List ℕ) →
    HasTables arrays wides a → AllSilent ns → counts_one_of inspected (written a) ≡ true → AreSmall inspected → a < 2 ^ 64 → length whole < 2 ^ 63 → HoldsUses whole a (extents a) entries →
    ((pre rest : List Tagged) (t : Tagged) → pre ++ t ∷ rest ≡ whole → t.site ≡ k → t.access.writes ≡ true → AreSized (scope_of arrays wides fault) ns (extents a) t.vars) →
    ((pre rest : List Tagged) (t : Tagged) → pre ++ t ∷ rest ≡ whole → t.site ≡ k → t.access.writes ≡ true → t.access.array ≡ a) →
    IsSitePiece (tables_kept inspected entries) (scope_of arrays wides fault) whole k (at_write a ns)

-- At the place of an initial cell, its piece counts the uses of this.
abbrev pub CellsCountByTables : Type 0
CellsCountByTables = (arrays : List Array) (wides : List Word) (fault : Option Upset) (a : ℕ) (ns : PlainExprs) (whole : List Tagged) (vs : Vars) (extents : ℕ → List ℤ) (inspected : List ℕ) (entries : Word → List ℕ) →
    HasTables arrays wides a → AllSilent ns → HoldsUses whole a (extents a) entries →
    ((cs : List ℤ) → Within (extents a) cs → AreSized (scope_of arrays wides fault) ns (extents a) (coordinate_vars 0 cs vs)) →
    ((cs : List ℤ) (s : State) → Within (extents a) cs → AreGiven (scope_of arrays wides fault) (words_from (coordinates_from 0 ns)) cs (coordinate_vars 0 cs vs) s) →
    IsCellPiece (tables_kept inspected entries) (scope_of arrays wides fault) whole vs (extents a) a (initial a ns)
