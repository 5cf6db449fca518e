-- Reading a flip file: each function gives what the code gives, or None where the bytes aren't of the form.
use Rattle.std.specs.Prelude.{ℕ, Bool, not, ◌&&◌, if◌then◌else◌, nat_eq, List, [], ◌∷◌, length, codes, position, bytes_eq, Option, Some, None, option_and_then}
use Rattle.std.specs.List.{list_all}
use Rattle.c_tree.specs.Plain.{Word}
use Rattle.c_tree.specs.declared.frame.ArrayInfo.{ArrayInfo}
use Rattle.text_pieces.specs.Fronts.{run, behind}
use Rattle.text_pieces.specs.Numbers.{decimal_in}
use Rattle.data_file.specs.Reading.{strip}
use Rattle.fault_plan.specs.Meaning.{is_blank, visible_lines, PlainFlip}

infixl 10 ◌>>=◌
abbrev pub ◌>>=◌ : {A B : Type 0} → Option A → (A → Option B) → Option B
o >>= f = option_and_then f o

-- ---- pieces

abbrev pub is_no_space : ℕ → Bool
is_no_space b = not (nat_eq b 32)

abbrev pub split_by : List ℕ → List ℕ → Option (List ℕ × List ℕ)
split_by piece [] = None
split_by piece (b ∷ rest) = Some (piece, rest)

-- what stands before the first space, and what follows it
abbrev pub split_space : List ℕ → Option (List ℕ × List ℕ)
split_space text = split_by (run is_no_space text) (behind is_no_space text)

abbrev pub is_solid : ℕ → Bool
is_solid b = not (is_blank b)

abbrev pub is_piece : List ℕ → Bool
is_piece piece = not (nat_eq (length piece) 0) && list_all is_solid piece

-- the name before the first space, and what follows it
unfoldable pub name_front : List ℕ → Option (Word × List ℕ)
name_front text = do
  (piece, rest) ← split_space text
  if is_piece piece then Some (piece, rest) else None

-- the number before the first space, and what follows it
unfoldable pub number_front : List ℕ → Option (ℕ × List ℕ)
number_front text = do
  (digits, rest) ← split_space text
  n ← decimal_in digits
  Some (n, rest)

-- ---- the line

-- the number behind `at `
unfoldable pub place_of : List ℕ → Option ℕ
place_of text = do
  digits ← strip (codes "at ") text
  decimal_in digits

-- the flip of a line
unfoldable pub line_of : List ℕ → Option PlainFlip
line_of line = do
  words ← strip (codes "flip ") line
  (array, cells) ← name_front words
  (cell, bits) ← number_front cells
  (bit, places) ← number_front bits
  place ← place_of places
  Some (record { array = array; cell = cell; bit = bit; place = place })

abbrev pub only : List (List ℕ) → Option (List ℕ)
only [] = None
only (line ∷ []) = Some line
only (line ∷ other ∷ more) = None

-- the one line that isn't blank
abbrev pub only_line : List ℕ → Option (List ℕ)
only_line text = only (visible_lines text)

-- the flip that a text says
abbrev pub said : List ℕ → Option PlainFlip
said text = only_line text >>= line_of

-- ---- the array

-- the number of the array of this name
abbrev pub array_in : List ArrayInfo → Word → Option ℕ
array_in arrays x = position (λ (a : ArrayInfo). bytes_eq a.name.bytes x) arrays
