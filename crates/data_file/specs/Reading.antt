-- Reading a data file: each function gives what the code gives, or None where the bytes aren't of the form.
use Rattle.std.specs.Prelude.{ℕ, zero, suc, ◌+◌, ◌-◌, ◌^◌, Bool, not, ◌&&◌, if◌then◌else◌, nat_eq, nat_lt, nat_le, bytes_eq, List, [], ◌∷◌, ◌++◌, length, take, drop, position, codes, slice_get, slice_index, slice_set, replicate, Option, Some, None, option_and_then, Result, Ok, Err, ℤ, pos, neg_ℤ}
use Rattle.std.specs.List.{list_all}
use Rattle.c_tree.specs.Plain.{Word}
use Rattle.c_tree.specs.declared.frame.Frame.{Frame}
use Rattle.c_tree.specs.declared.frame.Inputs.{Inputs}
use Rattle.text_pieces.specs.Fronts.{run, behind, is_in_line}
use Rattle.text_pieces.specs.Numbers.{decimal_in}
use Rattle.data_file.specs.declared.row.Row.{Row}
use Rattle.data_file.specs.declared.row.Row.TheVariants.{Value, Cells}
use Rattle.data_file.specs.Conditions.{names_in}
use Rattle.data_file.specs.Meaning.{is_gap}

infixl 10 ◌>>=◌
abbrev pub ◌>>=◌ : {A B : Type 0} → Option A → (A → Option B) → Option B
o >>= f = option_and_then f o

-- ---- fronts

-- what follows these bytes, and what stands before them
unfoldable pub strip : List ℕ → List ℕ → Option (List ℕ)
strip front text = if bytes_eq (take (length front) text) front then Some (drop (length front) text) else None

unfoldable pub strip_end : List ℕ → List ℕ → Option (List ℕ)
strip_end end text = if bytes_eq (drop (length text - length end) text) end then Some (take (length text - length end) text) else None

-- ---- numbers

abbrev pub negative : ℕ → Option ℤ
negative n = if nat_le 1 n && nat_le n (2 ^ 63) then Some (neg_ℤ (pos n)) else None

abbrev pub positive : ℕ → Option ℤ
positive n = if nat_lt n (2 ^ 63) then Some (pos n) else None

unfoldable pub int_of : List ℕ → Option ℤ
int_of [] = None
int_of (b ∷ bs) = if nat_eq b 45 then decimal_in bs >>= negative else decimal_in (b ∷ bs) >>= positive

abbrev pub is_solid : ℕ → Bool
is_solid b = not (is_gap b)

abbrev pub more_by : (List ℕ → Option (List ℕ)) → ℕ → List ℕ → Option (List ℕ)
more_by go n [] = Some (n ∷ [])
more_by go n (b ∷ bs) = go (behind is_gap (b ∷ bs)) >>= λ ns. Some (n ∷ ns)

-- numbers set apart by gaps, at most so many
unfoldable pub cells_in : ℕ → List ℕ → Option (List ℕ)
cells_in zero text = None
cells_in (suc k) text = decimal_in (run is_solid text) >>= λ n. more_by (cells_in k) n (behind is_solid text)

unfoldable pub cells_of : List ℕ → Option (List ℕ)
cells_of text = cells_in (length text) text

-- ---- rows

-- the place of the last `=`, from k on
abbrev pub last_equals : ℕ → Option ℕ → List ℕ → Option ℕ
last_equals k found [] = found
last_equals k found (b ∷ bs) = last_equals (k + 1) (if nat_eq b 61 then Some k else found) bs

-- what stands before the last `=`, and what from it on
abbrev pub at_equals : List ℕ → Option (List ℕ × List ℕ)
at_equals line = do
  k ← last_equals 0 None line
  if nat_le k (length line) then Some (take k line, drop k line) else None

-- the name before the last ` = `, and what follows it
unfoldable pub parted : List ℕ → Option (List ℕ × List ℕ)
parted line = do
  (front, back) ← at_equals line
  name ← strip_end (codes " ") front
  text ← strip (codes "= ") back
  Some (name, text)

-- what the text behind the name of this number carries, a parameter being one of the first so many
unfoldable pub row_of : ℕ → ℕ → List ℕ → Option Row
row_of parameters k text = if nat_lt k parameters then int_of text >>= (λ n. Some (Value n)) else cells_of text >>= (λ ns. Some (Cells ns))

-- the number of the name whose row the line is, and what it carries
unfoldable pub row_at : ℕ → List Word → List ℕ → Option (ℕ × Row)
row_at parameters names line = do
  (x, text) ← parted line
  k ← position (bytes_eq x) names
  r ← row_of parameters k text
  Some (k, r)

-- ---- lines

abbrev pub without_return : List ℕ → List ℕ
without_return line = if nat_eq (slice_index line (length line - 1)) 13 then take (length line - 1) line else line

abbrev pub line_by : List ℕ → List ℕ → List ℕ
line_by line [] = line
line_by line (b ∷ rest) = without_return line

abbrev pub rest_by : List ℕ → List ℕ
rest_by [] = []
rest_by (b ∷ rest) = rest

-- the first line, and what follows its line feed
abbrev pub first_line : List ℕ → List ℕ
first_line text = line_by (run is_in_line text) (behind is_in_line text)

abbrev pub after_line : List ℕ → List ℕ
after_line text = rest_by (behind is_in_line text)

abbrev pub Slots : Type 0
Slots = List (Option Row)

abbrev pub stored_in : Slots → ℕ → Row → Option (Option Row) → Option Slots
stored_in slots k r None = None
stored_in slots k r (Some None) = Some (slice_set slots k (Some r))
stored_in slots k r (Some (Some s)) = None

-- the row is put into its slot, if that is empty
unfoldable pub stored : Slots → ℕ → Row → Option Slots
stored slots k r = stored_in slots k r (slice_get slots k)

abbrev pub is_blank : List ℕ → Bool
is_blank line = list_all is_gap line

unfoldable pub with_line : ℕ → List Word → Slots → List ℕ → Option Slots
with_line parameters names slots line = if is_blank line then Some slots else row_at parameters names line >>= (λ x. stored slots x.0 x.1)

abbrev pub lines_by : (Slots → Result Slots ℕ) → ℕ → Option Slots → Result Slots ℕ
lines_by go n None = Err n
lines_by go n (Some slots) = go slots

-- the slots after all lines, or the number of the first bad line; n lines stand before
unfoldable pub with_lines : ℕ → List Word → Slots → ℕ → List (List ℕ) → Result Slots ℕ
with_lines parameters names slots n [] = Ok slots
with_lines parameters names slots n (line ∷ more) = lines_by (λ s. with_lines parameters names s (n + 1) more) (n + 1) (with_line parameters names slots line)

-- the values and the cells in the order of their slots, behind those already taken, if each slot has a row
unfoldable pub inputs_from : List ℤ → List (List ℕ) → Slots → Option Inputs
inputs_from ints cells [] = Some (record { ints = ints; cells = cells })
inputs_from ints cells (None ∷ more) = None
inputs_from ints cells (Some (Value n) ∷ more) = inputs_from (ints ++ n ∷ []) cells more
inputs_from ints cells (Some (Cells ns) ∷ more) = inputs_from ints (cells ++ ns ∷ []) more

abbrev pub no_rows : Frame → Slots
no_rows f = replicate (length (names_in f)) None

abbrev pub inputs_or : ℕ → Option Inputs → Result Inputs ℕ
inputs_or n None = Err n
inputs_or n (Some i) = Ok i

abbrev pub inputs_by : ℕ → Result Slots ℕ → Result Inputs ℕ
inputs_by n (Ok slots) = inputs_or n (inputs_from [] [] slots)
inputs_by n (Err k) = Err k

-- the inputs that the lines carry, or the number of the first bad one
unfoldable pub inputs_in : Frame → List (List ℕ) → Result Inputs ℕ
inputs_in f ls = inputs_by (length ls + 1) (with_lines (length f.ints) (names_in f) (no_rows f) 0 ls)
