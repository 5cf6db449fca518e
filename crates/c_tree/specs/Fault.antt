-- A fault: one bit of one cell, inverted immediately before the access with a number.
use Rattle.std.specs.Prelude.{◌≡◌, ℕ, ◌^◌, ◌<◌, ◌≤◌, true, false, ◌==◌, if◌then◌else◌, List, length, bit_xor, slice_get, Option, Some, None, ℤ}
use Rattle.c_tree.specs.Arrays.{Array, Memory, stored, extents_at, all_cells}
use Rattle.c_tree.specs.Accesses.{Access, at, is_of}

-- a fault as a user names it: the array's number, the cell's row-major number, the bit, and the number of the access
pub record Fault : Type 0 where
  pub array : ℕ
  pub cell : ℕ
  pub bit : ℕ
  pub place : ℕ

-- the same, the cell by its coordinates
pub record Upset : Type 0 where
  pub array : ℕ
  pub cell : List ℤ
  pub bit : ℕ
  pub place : ℕ

abbrev pub upset_at : Fault → Option (List ℤ) → Option Upset
upset_at f None = None
upset_at f (Some cell) = Some (record { array = f.array; cell = cell; bit = f.bit; place = f.place })

-- A cell that no array has isn't changed.
abbrev pub upset_of : List Array → Option Fault → Option Upset
upset_of arrays None = None
upset_of arrays (Some f) = upset_at f (slice_get (all_cells (extents_at arrays f.array)) f.cell)

-- what a fault makes of a word
abbrev pub altered : ℕ → ℕ → ℕ
altered bit word = bit_xor word (2 ^ bit)

-- a memory with the bit inverted
abbrev pub inverted : Upset → Memory → Memory
inverted f memory = stored memory f.array f.cell (altered f.bit (memory f.array f.cell))

-- the memory that access number n finds, from the one that the accesses before it left
unfoldable pub disturbed : Option Upset → ℕ → Memory → Memory
disturbed None n memory = memory
disturbed (Some f) n memory = if f.place == n then inverted f memory else memory

-- the first access of the cell at the place or later exists and is a read
pub record Exposed (list : List Access) (f : Upset) : Type 0 where
  pub next : ℕ
  pub later : f.place ≤ next
  pub exists : next < length list
  pub of_cell : is_of (at list next) f.array f.cell ≡ true
  pub reads : (at list next).writes ≡ false
  pub first : (p : ℕ) → f.place ≤ p → p < next → is_of (at list p) f.array f.cell ≡ false
