-- Whether values lie within their ranges, and how many cells arrays have for them.
use Rattle.std.specs.Prelude.{◌≡◌, ℕ, ◌-◌, ◌<◌, Bool, true, false, not, ◌||◌, ◌==◌, nat_lt, int_lt, List, length, map, fold, slice_get, Option, Some, None, ℤ, pos, ◌+ℤ◌, ◌*ℤ◌}
use Rattle.c_tree.specs.Arrays.{cell_count}
use Rattle.c_tree.specs.declared.affine.Affine.{Affine}
use Rattle.c_tree.specs.declared.name.Name.{Name}
use Rattle.c_tree.specs.declared.frame.Frame.{Frame}
use Rattle.c_tree.specs.declared.frame.ArrayInfo.{ArrayInfo}
use Rattle.c_tree.specs.declared.frame.Inputs.{Inputs}

-- ---- what is tested of a number of a parameter or an array

-- the number is the first below n that passes the test
pub record IsFirst (test : ℕ → Bool) (n k : ℕ) : Type 0 where
  pub below : k < n
  pub passes : test k ≡ true
  pub first : (j : ℕ) → j < k → test j ≡ false

-- none below n passes
abbrev pub NonePasses : (ℕ → Bool) → ℕ → Type 0
NonePasses test n = (k : ℕ) → k < n → test k ≡ false

-- the first below n that passes, if there is one
abbrev pub FindsFirst : (ℕ → Bool) → ℕ → Option ℕ → Type 0
FindsFirst test n None = NonePasses test n
FindsFirst test n (Some k) = IsFirst test n k

-- ---- ranges

abbrev pub outside : Option (Name × ℤ × ℤ) → Option ℤ → Bool
outside (Some p) (Some n) = int_lt n p.1 || int_lt p.2 n
outside _ _ = false

-- the value of the parameter of this number is outside its range
abbrev pub is_outside : Frame → List ℤ → ℕ → Bool
is_outside f ints k = outside (slice_get f.ints k) (slice_get ints k)

-- ---- cells

abbrev pub value_in : Option ℤ → ℤ
value_in None = pos 0
value_in (Some n) = n

-- the value of a variable, the parameters being numbered from 1
abbrev pub value_of : List ℤ → ℕ → ℤ
value_of ints v = value_in (slice_get ints (v - 1))

abbrev pub term_value : List ℤ → ℕ × ℤ → ℤ
term_value ints t = t.1 *ℤ value_of ints t.0

-- the constant and all terms
abbrev pub sum_value : List ℤ → Affine → ℤ
sum_value ints a = fold (λ total t. total +ℤ term_value ints t) a.constant a.terms

-- the cells of an array: the product of its extents
abbrev pub cells_of_array : List ℤ → ArrayInfo → ℕ
cells_of_array ints a = cell_count (map (sum_value ints) a.extents)

abbrev pub count_in : List ℤ → Option ArrayInfo → ℕ
count_in ints None = 0
count_in ints (Some a) = cells_of_array ints a

-- the cells of the array of this number
abbrev pub wanted_cells : Frame → List ℤ → ℕ → ℕ
wanted_cells f ints k = count_in ints (slice_get f.arrays k)

abbrev pub is_too_large : Frame → List ℤ → ℕ → Bool
is_too_large f ints k = nat_lt 4194304 (wanted_cells f ints k)

abbrev pub length_in : Option (List ℕ) → ℕ
length_in None = 0
length_in (Some ns) = length ns

-- the cells that the row of the array of this number has
abbrev pub given_cells : List (List ℕ) → ℕ → ℕ
given_cells cells k = length_in (slice_get cells k)

abbrev pub has_wrong_cells : Frame → Inputs → ℕ → Bool
has_wrong_cells f i k = not (wanted_cells f i.ints k == given_cells i.cells k)

-- inputs that fit: values within their ranges, arrays that aren't too large, and as many cells as they have
pub record Fits (f : Frame) (i : Inputs) : Type 0 where
  pub within : NonePasses (is_outside f i.ints) (length f.ints)
  pub few : NonePasses (is_too_large f i.ints) (length f.arrays)
  pub counted : NonePasses (has_wrong_cells f i) (length f.arrays)
