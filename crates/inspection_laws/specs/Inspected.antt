-- Definitions of one array in a list of accesses, numbered; and two lists of entries that stand for how the list goes.
use Rattle.std.specs.Prelude.{◌≡◌, ℕ, ◌+◌, ◌*◌, Bool, true, ◌&&◌, ◌==◌, if◌then◌else◌, List, [], ◌∷◌, length, slice_index, ℤ}
use Rattle.c_tree.specs.Arrays.{size_of, cell_count}
use Rattle.c_tree.specs.Accesses.{Access, at, Definition, latest, sum_below, reads_from, Within}
use Rattle.c_tree.specs.Accesses.Definition.{Initial, Written}

-- the row-major number of a cell
abbrev pub row : List ℤ → List ℤ → ℕ
row [] cs = 0
row (e ∷ es) [] = 0
row (e ∷ es) (c ∷ cs) = size_of c * cell_count es + row es cs

-- position q writes the array
abbrev pub writes_array : List Access → ℕ → ℕ → Bool
writes_array list a q = (at list q).writes && ((at list q).array == a)

-- the writes of the array below position n
abbrev pub writes_before : List Access → ℕ → ℕ → ℕ
writes_before list a n = sum_below (λ q. if writes_array list a q then 1 else 0) n

-- a definition of a cell of the array
abbrev pub IsIts : List Access → ℕ → List ℤ → Definition → Type 0
IsIts list a es (Initial b c) = (b ≡ a) × Within es c
IsIts list a es (Written p) = writes_array list a p ≡ true

abbrev pub number_of : List Access → ℕ → List ℤ → Definition → ℕ
number_of list a es (Initial b c) = row es c
number_of list a es (Written p) = cell_count es + writes_before list a p

-- the reads of a definition below position n
abbrev pub uses_below : List Access → ℕ → Definition → ℕ
uses_below list n d = sum_below (λ q. if reads_from list d q then 1 else 0) n

-- After n accesses: by how much the number of each cell's current definition is greater than its own, how often each definition was read, and how many writes there were.
pub record Inspected (list : List Access) (a : ℕ) (es : List ℤ) (n : ℕ) (current counts : List ℕ) (written : ℕ) : Type 0 where
  pub cells : length current ≡ cell_count es
  pub definitions : length counts ≡ cell_count es + writes_before list a (length list)
  pub writes : written ≡ writes_before list a n
  pub stands : (c : List ℤ) → Within es c → row es c + slice_index current (row es c) ≡ number_of list a es (latest list a c n)
  pub counted : (d : Definition) → IsIts list a es d → slice_index counts (number_of list a es d) ≡ uses_below list n d
