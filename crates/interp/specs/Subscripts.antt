-- The place of a cell whose subscripts are all signed, without a list of their values.
use Rattle.std.specs.Prelude.{ℕ, ◌+◌, ◌*◌, ◌%◌, ◌^◌, ◌&&◌, if◌then◌else◌, List, [], ◌∷◌, ℤ, pos, int_le, int_lt, Option, Some, None, slice_get}
use Rattle.c_tree.specs.Arrays.{size_of}
use Rattle.interp.specs.declared.slots.WordExpr.{WordExpr}
use Rattle.interp.specs.declared.slots.WordExpr.TheVariants as w
use Rattle.interp.specs.Places.{Placed}
use Rattle.interp.specs.Signed.{signed_of}

-- the row-major number of a cell within the extents, behind this many rows, where all its subscripts are signed
abbrev pub row_major : ℕ → List ℤ → List WordExpr → List ℤ → Option ℕ
row_major rows [] [] ns = Some rows
row_major rows (x ∷ xs) (w.Index e ∷ at) ns =
    if int_le (pos 0) (signed_of e ns) && int_lt (signed_of e ns) x then row_major ((rows * size_of x + size_of (signed_of e ns)) % 2 ^ 64) xs at ns else None
row_major rows _ _ ns = None

abbrev pub next_row : ℕ → ℤ → ℤ → Option ℕ
next_row rows x c = if int_le (pos 0) c && int_lt c x then Some ((rows * size_of x + size_of c) % 2 ^ 64) else None

-- behind a base
abbrev pub behind_base : ℕ → Option ℕ → Option ℕ
behind_base b None = None
behind_base b (Some n) = Some ((b + n) % 2 ^ 64)

abbrev pub signed_place_in : List WordExpr → List ℤ → Option Placed → Option ℕ
signed_place_in at ns None = None
signed_place_in at ns (Some p) = behind_base p.base (row_major 0 p.extents at ns)

-- the place of a cell within its array, where all its subscripts are signed
abbrev pub signed_place : List Placed → ℕ → List WordExpr → List ℤ → Option ℕ
signed_place ps a at ns = signed_place_in at ns (slice_get ps a)
