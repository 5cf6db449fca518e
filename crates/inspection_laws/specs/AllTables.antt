-- The tables of several inspected arrays, one after another, each array with its extents as they are declared.
use Rattle.std.specs.Prelude.{◌≡◌, ◌≢◌, ℕ, ◌+◌, ◌^◌, ◌<◌, false, List, [], ◌∷◌, ◌++◌, ℤ, bytes_eq, slice_index}
use Rattle.c_tree.specs.Plain.{Word, PlainExprs, PlainStmt, PlainStmts}
use Rattle.c_tree.specs.Values.{Vars}
use Rattle.c_tree.specs.Arrays.{Array, Memory, cell_count}
use Rattle.c_tree.specs.Accesses.{Access, Definition, uses, writes_of}
use Rattle.c_tree.specs.Run.{State, End}
use Rattle.instrumentation.specs.Names.{written, current, counts}
use Rattle.instrumentation.specs.Tables.{build}
use Rattle.inspection_laws.specs.Inspected.{IsIts, number_of}
use Rattle.inspection_laws.specs.Misses.{misses_in, misses_all}
use Rattle.inspection_laws.specs.Walked.{AreExtents, HasTables, is_scratch}

abbrev pub Named : Type 0
Named = List (ℕ × PlainExprs)

abbrev pub build_all : (Word → ℕ) → PlainStmts → Named → List PlainStmt
build_all number body [] = []
build_all number body (x ∷ xs) = build number body x.0 x.1 ++ build_all number body xs

abbrev pub NoScratch : Named → Word → Type 0
NoScratch [] y = Unit {0}
NoScratch (x ∷ xs) y = (is_scratch x.0 y ≡ false) × NoScratch xs y

abbrev pub NoTable : Named → Word → Type 0
NoTable [] y = Unit {0}
NoTable (x ∷ xs) y = ((bytes_eq (current x.0) y ≡ false) × (bytes_eq (counts x.0) y ≡ false)) × NoTable xs y

abbrev pub AllApart : ℕ → Named → Type 0
AllApart a [] = Unit {0}
AllApart a (x ∷ xs) = ((x.0 ≢ a) × (x.0 < 2 ^ 64)) × AllApart a xs

-- different numbers
abbrev pub AreDistinct : Named → Type 0
AreDistinct [] = Unit {0}
AreDistinct (x ∷ xs) = (x.0 < 2 ^ 64) × AllApart x.0 xs × AreDistinct xs

-- what is asked of each
abbrev pub AreReady : List Array → List Word → (ℕ → List ℤ) → Vars → Named → Type 0
AreReady arrays wides extents params [] = Unit {0}
AreReady arrays wides extents params (x ∷ xs) = (HasTables arrays wides x.0 × AreExtents x.1 (extents x.0) params) × AreReady arrays wides extents params xs

abbrev pub EachHolds : List Access → (ℕ → List ℤ) → Named → State → Type 0
EachHolds list extents [] t = Unit {0}
EachHolds list extents (x ∷ xs) t =
    ((t.words (written x.0) ≡ 0) × ((d : Definition) → IsIts list x.0 (extents x.0) d → slice_index (t.tables (counts x.0)) (number_of list x.0 (extents x.0) d) ≡ uses list d)) × EachHolds list extents xs t

-- the lengths of an array's tables: an entry for each cell, and one for each cell and each write
abbrev pub two_lengths : List Access → (ℕ → List ℤ) → ℕ → List ℕ
two_lengths list extents a = cell_count (extents a) ∷ (cell_count (extents a) + writes_of list a) ∷ []

-- those of several arrays
abbrev pub lengths_made : List Access → (ℕ → List ℤ) → Named → List ℕ
lengths_made list extents [] = []
lengths_made list extents (x ∷ xs) = two_lengths list extents x.0 ++ lengths_made list extents xs

pub record AllBuilt (list : List Access) (extents : ℕ → List ℤ) (xs : Named) (from t : State) : Type 0 where
  pub begun : t.begun ≡ from.begun
  pub memory : t.memory ≡ from.memory
  pub accesses : t.accesses ≡ from.accesses
  pub wides : t.wides ≡ from.wides
  pub words : (y : Word) → NoScratch xs y → t.words y ≡ from.words y
  pub tables : (y : Word) → NoTable xs y → t.tables y ≡ from.tables y
  pub made : t.made ≡ from.made ++ lengths_made list extents xs
  pub each : EachHolds list extents xs t

abbrev pub misses_each : List Array → Memory → (Word → ℕ) → (ℕ → List ℤ) → PlainStmts → Vars → Named → List End
misses_each arrays m number extents body params [] = []
misses_each arrays m number extents body params (x ∷ xs) = misses_all (misses_in arrays m number x.0 (extents x.0)) body params ++ misses_each arrays m number extents body params xs
