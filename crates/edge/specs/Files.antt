-- Look-ups in a list of files, each a name and its bytes, and in a list of numbers.
use Rattle.std.specs.Prelude.{ℕ, Bool, List, Option, option_map, find, ◌==◌}
use Rattle.std.specs.List.{list_any}
use Rattle.std.specs.Str.{bytes_eq}

-- the bytes of the first file with this name
abbrev pub file_of : List (List ℕ × List ℕ) → List ℕ → Option (List ℕ)
file_of files name = option_map (λ file. file.1) (find (λ file. bytes_eq file.0 name) files)

-- whether a number stands in a list
abbrev pub has_number : List ℕ → ℕ → Bool
has_number numbers number = list_any (λ n. n == number) numbers
