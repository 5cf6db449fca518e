-- The inputs of a unit: which fit its head, and for which its source stays within its arrays.
use Rattle.std.specs.Prelude.{◌≡◌, ◌≤◌, ◌<◌, ◌^◌, ◌≤ℤ◌, ℕ, List, [], ◌∷◌, length, ℤ, Option, Some, None, bytes_eq, if◌then◌else◌}
use Rattle.std.specs.List.{AllByRecursion}
use Rattle.c_tree.specs.Plain.{Word, PlainParam, int_param, array_param, PlainUnit}
use Rattle.c_tree.specs.Arrays.{Array, Memory, cell_count, arrays_of, vars_of, memory_of, extents_at}
use Rattle.c_tree.specs.Accesses.{Clean}
use Rattle.c_tree.specs.Instances.{core, accesses}

-- a value for each `int64_t` parameter, and the words of each array row-major, both in declared order
pub record PlainInputs : Type 0 where
  pub ints : List ℤ
  pub cells : List (List ℕ)

-- the range line of a name
abbrev pub range_of : List (Word × ℤ × ℤ) → Word → Option (ℤ × ℤ)
range_of [] x = None
range_of (r ∷ rs) x = if bytes_eq r.0 x then Some (r.1, r.2) else range_of rs x

abbrev pub IsBetween : Option (ℤ × ℤ) → ℤ → Type 0
IsBetween None n = ⊥
IsBetween (Some r) n = (r.0 ≤ℤ n) × (n ≤ℤ r.1)

-- a value within its range for each `int64_t` parameter
abbrev pub AreInRange : List (Word × ℤ × ℤ) → List PlainParam → List ℤ → Type 0
AreInRange rs [] [] = Unit {0}
AreInRange rs [] (n ∷ ns) = ⊥
AreInRange rs (array_param x constant extents ∷ ps) ns = AreInRange rs ps ns
AreInRange rs (int_param x ∷ ps) [] = ⊥
AreInRange rs (int_param x ∷ ps) (n ∷ ns) = IsBetween (range_of rs x) n × AreInRange rs ps ns

-- as many words as the array has cells, and no more than 4,194,304
pub record HasCells (extents : List ℤ) (words : List ℕ) : Type 0 where
  pub count : length words ≡ cell_count extents
  pub few : cell_count extents ≤ 4194304
  pub small : AllByRecursion (λ n. n < 2 ^ 64) words

abbrev pub HaveCells : List Array → List (List ℕ) → Type 0
HaveCells [] [] = Unit {0}
HaveCells [] (c ∷ cells) = ⊥
HaveCells (a ∷ arrays) [] = ⊥
HaveCells (a ∷ arrays) (c ∷ cells) = HasCells a.extents c × HaveCells arrays cells

abbrev pub arrays_for : PlainUnit → List ℤ → List Array
arrays_for u ns = arrays_of (vars_of u.params ns) u.params

abbrev pub memory_for : PlainUnit → PlainInputs → Memory
memory_for u i = memory_of (arrays_for u i.ints) i.cells

-- inputs that fit the head of a unit
pub record Fit (u : PlainUnit) (i : PlainInputs) : Type 0 where
  pub ints : AreInRange u.ranges u.params i.ints
  pub cells : HaveCells (arrays_for u i.ints) i.cells

-- every access of the source lies within its extents
abbrev pub IsClean : PlainUnit → PlainInputs → Type 0
IsClean u i = Clean (extents_at (arrays_for u i.ints)) (core u i.ints (memory_for u i))

-- Sound inputs: they fit, the source stays within its arrays, and it makes fewer than 2^63 accesses.
pub record IsSound (u : PlainUnit) (i : PlainInputs) : Type 0 where
  pub fit : Fit u i
  pub clean : IsClean u i
  pub few : length (accesses u i.ints (memory_for u i)) < 2 ^ 63
