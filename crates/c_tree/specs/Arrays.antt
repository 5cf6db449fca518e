-- Arrays, their cells, and memory.
use Rattle.std.specs.Prelude.{ℕ, suc, ◌+◌, ◌*◌, Bool, true, false, ◌&&◌, ◌==◌, if◌then◌else◌, List, [], ◌∷◌, map, flat_map, ℤ, pos, negsuc, int_lt, int_le, Option, Some, None, bytes_eq, slice_get, slice_index}
use Rattle.std.specs.Ordering.{int_eq}
use Rattle.c_tree.specs.Plain.{Word, PlainExprs, no_exprs, more_exprs, PlainParam, int_param, array_param}
use Rattle.c_tree.specs.Values.{Vars, exact, from_on}

-- an array of a run, with its extents
pub record Array : Type 0 where
  pub name : Word
  pub constant : Bool
  pub extents : List ℤ

-- two cells have the same coordinates
abbrev pub same_cell : List ℤ → List ℤ → Bool
same_cell [] [] = true
same_cell (i ∷ c) (j ∷ d) = int_eq i j && same_cell c d
same_cell [] (j ∷ d) = false
same_cell (i ∷ c) [] = false

-- a word for each cell, by the array's number and the coordinates
abbrev pub Memory : Type 0
Memory = ℕ → List ℤ → ℕ

-- a memory with a word stored into a cell
abbrev pub stored : Memory → ℕ → List ℤ → ℕ → Memory
stored memory array cell word a c = if (array == a) && same_cell cell c then word else memory a c

-- the array of a name, with its number
abbrev pub array_from : ℕ → List Array → Word → Option (ℕ × Array)
array_from k [] x = None
array_from k (a ∷ more) x = if bytes_eq a.name x then Some (k, a) else array_from (suc k) more x

abbrev pub array_named : List Array → Word → Option (ℕ × Array)
array_named = array_from 0

-- each coordinate is at least 0 and below its extent
abbrev pub is_within : List ℤ → List ℤ → Bool
is_within [] [] = true
is_within (c ∷ cs) (e ∷ es) = int_le (pos 0) c && int_lt c e && is_within cs es
is_within [] (e ∷ es) = false
is_within (c ∷ cs) [] = false

abbrev pub size_of : ℤ → ℕ
size_of (pos n) = n
size_of (negsuc n) = 0

-- how many cells an array has
abbrev pub cell_count : List ℤ → ℕ
cell_count [] = 1
cell_count (e ∷ es) = size_of e * cell_count es

-- the turns of the plain walk over the cells, a loop for each extent
abbrev pub cell_walk : List ℤ → ℕ
cell_walk [] = 0
cell_walk (e ∷ es) = size_of e + size_of e * cell_walk es

-- the coordinates of all cells, row-major
abbrev pub all_cells : List ℤ → List (List ℤ)
all_cells [] = [] ∷ []
all_cells (e ∷ es) = flat_map (λ c. map (λ cs. c ∷ cs) (all_cells es)) (from_on (pos 0) (size_of e))

-- the words of an array, row-major
abbrev pub words_of : Memory → ℕ → List ℤ → List ℕ
words_of m a extents = map (m a) (all_cells extents)

abbrev pub words_from : Memory → ℕ → List Array → List (List ℕ)
words_from m k [] = []
words_from m k (a ∷ more) = words_of m k a.extents ∷ words_from m (suc k) more

-- the row-major number of a cell
abbrev pub index_of : List (List ℤ) → List ℤ → ℕ
index_of [] c = 0
index_of (d ∷ more) c = if same_cell d c then 0 else suc (index_of more c)

abbrev pub extents_in : Option Array → List ℤ
extents_in None = []
extents_in (Some a) = a.extents

-- the extents of the array of a number
abbrev pub extents_at : List Array → ℕ → List ℤ
extents_at arrays a = extents_in (slice_get arrays a)

abbrev pub row_in : Option (List ℕ) → List ℕ
row_in None = []
row_in (Some ns) = ns

-- the memory of these words, row-major
abbrev pub memory_of : List Array → List (List ℕ) → Memory
memory_of arrays cells a c = slice_index (row_in (slice_get cells a)) (index_of (all_cells (extents_at arrays a)) c)

-- the extents, for these parameters
abbrev pub extents_of : Vars → PlainExprs → List ℤ
extents_of vs no_exprs = []
extents_of vs (more_exprs e es) = exact e vs ∷ extents_of vs es

abbrev pub arrays_of : Vars → List PlainParam → List Array
arrays_of vs [] = []
arrays_of vs (int_param x ∷ ps) = arrays_of vs ps
arrays_of vs (array_param x constant extents ∷ ps) = record { name = x; constant = constant; extents = extents_of vs extents } ∷ arrays_of vs ps

-- the parameters by name, with these values in declared order
abbrev pub vars_of : List PlainParam → List ℤ → Vars
vars_of [] ns = []
vars_of (array_param x constant extents ∷ ps) ns = vars_of ps ns
vars_of (int_param x ∷ ps) [] = (x, pos 0) ∷ vars_of ps []
vars_of (int_param x ∷ ps) (n ∷ ns) = (x, n) ∷ vars_of ps ns
