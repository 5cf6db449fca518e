-- Lists of accesses, the definition that each read takes its value from, and how often each definition is read.
use Rattle.std.specs.Prelude.{◌≡◌, ℕ, zero, suc, ◌+◌, ◌<◌, Bool, false, not, ◌&&◌, ◌==◌, if◌then◌else◌, List, [], ◌∷◌, length, slice_index_or, ℤ, pos}
use Rattle.c_tree.specs.Arrays.{same_cell, size_of}

-- an access: the cell of an array, by its coordinates, and whether it is written or read
pub record Access : Type 0 where
  pub array : ℕ
  pub cell : List ℤ
  pub writes : Bool

-- what is said of positions past the end
abbrev pub nowhere : Access
nowhere = record { array = 0; cell = []; writes = false }

-- the access at a position
abbrev pub at : List Access → ℕ → Access
at list p = slice_index_or list p nowhere

-- an access is one of this cell
abbrev pub is_of : Access → ℕ → List ℤ → Bool
is_of x array cell = (x.array == array) && same_cell x.cell cell

-- a definition of a cell: what the cell holds at first, or the write at a position
pub data Definition : Type 0 where
  Initial : (array : ℕ) → (cell : List ℤ) → Definition
  Written : (position : ℕ) → Definition

abbrev pub same_definition : Definition → Definition → Bool
same_definition (Initial a c) (Initial b d) = (a == b) && same_cell c d
same_definition (Written p) (Written q) = p == q
same_definition (Initial a c) (Written q) = false
same_definition (Written p) (Initial b d) = false

-- the definition of a cell that stands before position q: the greatest position below q that writes the cell, and Initial where there is none
unfoldable pub latest : List Access → ℕ → List ℤ → ℕ → Definition
latest list array cell zero = Initial array cell
latest list array cell (suc p) =
    if (at list p).writes && is_of (at list p) array cell then Written p else latest list array cell p

-- the definition that the access at position q finds in its cell
abbrev pub last_writer : List Access → ℕ → Definition
last_writer list q = latest list (at list q).array (at list q).cell q

-- the sum of the terms below n
unfoldable pub sum_below : (ℕ → ℕ) → ℕ → ℕ
sum_below f zero = 0
sum_below f (suc n) = sum_below f n + f n

-- position q reads what this definition left
abbrev pub reads_from : List Access → Definition → ℕ → Bool
reads_from list d q = not (at list q).writes && same_definition (last_writer list q) d

-- the number of reads whose last writer is this definition
unfoldable pub uses : List Access → Definition → ℕ
uses list d = sum_below (λ q. if reads_from list d q then 1 else 0) (length list)

-- the number of writes of an array
unfoldable pub writes_of : List Access → ℕ → ℕ
writes_of list array = sum_below (λ q. if (at list q).writes && ((at list q).array == array) then 1 else 0) (length list)

-- a cell lies within extents
abbrev pub Within : List ℤ → List ℤ → Type 0
Within [] [] = Unit {0}
Within (e ∷ es) (i ∷ c) = ((k : ℕ) × (i ≡ pos k) × (k < size_of e)) × Within es c
Within [] (i ∷ c) = ⊥
Within (e ∷ es) [] = ⊥

-- each access lies within the extents of its array
abbrev pub Clean : (ℕ → List ℤ) → List Access → Type 0
Clean extents list = (q : ℕ) → q < length list → Within (extents (at list q).array) (at list q).cell
