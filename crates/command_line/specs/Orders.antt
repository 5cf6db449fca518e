-- The lists of words that are in form, and what each orders.
use Rattle.std.specs.Prelude.{ℕ, List, [], ◌∷◌, length, Option, Some, None, Bool, false, ◌&&◌, not, ◌==◌, nat_le, if◌then◌else◌, bytes_eq, codes}
use Rattle.std.specs.List.{list_all}
use Rattle.std.specs.Str.Parse.{digits_value}
use Rattle.text_pieces.specs.Numbers.{is_numeral}

pub data Order : Type 0 where
  -- print SOURCE
  print : (source : List ℕ) → Order
  -- run FILE DATA [FLIP]
  run_file : (file input : List ℕ) (flip : Option (List ℕ)) → Order
  -- try SOURCE DATA [FLIP]
  attempt : (source input : List ℕ) (flip : Option (List ℕ)) → Order
  -- report SOURCE
  report : (source : List ℕ) → Order
  -- demo NUMBER
  demo : (number : ℕ) → Order

-- a name isn't empty and doesn't begin with `-`
abbrev pub is_name : List ℕ → Bool
is_name [] = false
is_name (byte ∷ bytes) = not (byte == 45)

-- one to five decimal digits, which write a number up to 399
abbrev pub is_number : List ℕ → Bool
is_number word = is_numeral 10 word && (nat_le (length word) 5 && nat_le (digits_value 10 word) 399)

-- the number of a demonstration
abbrev pub number_of : List ℕ → Option ℕ
number_of word = if is_number word then Some (digits_value 10 word) else None

abbrev pub demo_order : Option ℕ → Option Order
demo_order None = None
demo_order (Some number) = Some (demo number)

-- a mode and one name
abbrev pub text_order : List ℕ → List ℕ → Option Order
text_order mode name =
    if bytes_eq mode (codes "print")
    then Some (print name)
    else (if bytes_eq mode (codes "report") then Some (report name) else (if bytes_eq mode (codes "demo") then demo_order (number_of name) else None))

-- a mode and the names of a text, of its data and maybe of a flip
abbrev pub run_order : List ℕ → List ℕ → List ℕ → Option (List ℕ) → Option Order
run_order mode file input flip =
    if bytes_eq mode (codes "run")
    then Some (run_file file input flip)
    else (if bytes_eq mode (codes "try") then Some (attempt file input flip) else None)

-- a mode and as many names as it takes
abbrev pub mode_order : List ℕ → List (List ℕ) → Option Order
mode_order mode (name ∷ []) = text_order mode name
mode_order mode (file ∷ input ∷ []) = run_order mode file input None
mode_order mode (file ∷ input ∷ flip ∷ []) = run_order mode file input (Some flip)
mode_order mode names = None

abbrev pub order_of : List (List ℕ) → Option Order
order_of [] = None
order_of (mode ∷ names) = if list_all is_name names then mode_order mode names else None

-- the file word of a flip, where there is one
abbrev pub flip_files : Option (List ℕ) → List (List ℕ)
flip_files None = []
flip_files (Some flip) = flip ∷ []

-- the file words, in the order in which they are loaded
abbrev pub files_of : Order → List (List ℕ)
files_of (print source) = source ∷ []
files_of (run_file file input flip) = file ∷ input ∷ flip_files flip
files_of (attempt source input flip) = source ∷ input ∷ flip_files flip
files_of (report source) = source ∷ []
files_of (demo number) = []
