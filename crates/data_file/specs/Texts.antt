-- The text of a data file and the output of a run, from the values that they carry.
use Rattle.std.specs.Prelude.{◌≡◌, ℕ, ◌+◌, ◌<◌, length, Bool, nat_eq, if◌then◌else◌, List, [], ◌∷◌, ◌++◌, codes, decimal, flat_map, ℤ, slice_get, Option, Some, None}
use Rattle.std.specs.Fmt.{signed_decimal}
use Rattle.std.specs.List.{list_any}
use Rattle.c_tree.specs.Plain.{Word}
use Rattle.c_tree.specs.declared.name.Name.{Name}
use Rattle.c_tree.specs.declared.frame.Frame.{Frame}
use Rattle.c_tree.specs.declared.frame.ArrayInfo.{ArrayInfo}
use Rattle.c_tree.specs.declared.frame.Inputs.{Inputs}
use Rattle.c_tree.specs.declared.run.Ended.{Ended}
use Rattle.c_tree.specs.declared.run.Verdict.{Verdict}
use Rattle.c_tree.specs.declared.run.Verdict.TheVariants.{Plain, Balanced, Fault, Index, Outside}

-- a piece for each item of the first list with the item of the second at its place, as far as both go
abbrev pub paired : {A B : Type 0} → (A → B → List ℕ) → List A → List B → List ℕ
paired piece [] bs = []
paired piece (a ∷ more) [] = []
paired piece (a ∷ more) (b ∷ bs) = piece a b ++ paired piece more bs

-- a cell, with a space before it
abbrev pub cell_text : ℕ → List ℕ
cell_text n = 32 ∷ decimal n

-- NAME = VALUE
abbrev pub parameter_line : Word → ℤ → List ℕ
parameter_line x n = x ++ (codes " = " ++ (signed_decimal n ++ 10 ∷ []))

-- NAME = CELLS
abbrev pub array_line : Word → List ℕ → List ℕ
array_line x cells = x ++ (codes " =" ++ (flat_map cell_text cells ++ 10 ∷ []))

abbrev pub parameter_text : Name × ℤ × ℤ → ℤ → List ℕ
parameter_text p n = parameter_line p.0.bytes n

abbrev pub array_text : ArrayInfo → List ℕ → List ℕ
array_text a cells = array_line a.name.bytes cells

-- a line for each parameter, then one for each array, in declared order
abbrev pub data_text : Frame → Inputs → List ℕ
data_text f i = paired parameter_text f.ints i.ints ++ paired array_text f.arrays i.cells

-- a `const` array isn't written
abbrev pub kept_text : ArrayInfo → List ℕ → List ℕ
kept_text a cells = if a.constant then [] else array_text a cells

abbrev pub name_in : Option ArrayInfo → Word
name_in None = []
name_in (Some a) = a.name.bytes

-- the name of the array of this number, with a space before it
abbrev pub named : List ArrayInfo → ℕ → List ℕ
named arrays k = 32 ∷ name_in (slice_get arrays k)

-- The names of the arrays whose numbers are in the list, in declared order, each with a space before it. The first array has the number k.
abbrev pub names_among : List ℕ → ℕ → List ArrayInfo → List ℕ
names_among ks k [] = []
names_among ks k (a ∷ more) = (if list_any (nat_eq k) ks then 32 ∷ a.name.bytes else []) ++ names_among ks (k + 1) more

abbrev pub verdict_words : List ArrayInfo → Verdict → List ℕ
verdict_words arrays Plain = codes "plain"
verdict_words arrays Balanced = codes "balanced"
verdict_words arrays (Fault ks) = codes "fault" ++ names_among ks 0 arrays
verdict_words arrays (Index k) = codes "index" ++ named arrays k
verdict_words arrays (Outside k) = codes "outside" ++ named arrays k

-- a line for each array that isn't `const`, in declared order, and then the verdict
abbrev pub output_text : Frame → Ended → List ℕ
output_text f e = paired kept_text f.arrays e.arrays ++ (verdict_words f.arrays e.verdict ++ 10 ∷ [])

-- for each number below count, whether the list has it
pub record AreMarks (ks : List ℕ) (count : ℕ) (marks : List Bool) : Type 0 where
  pub size : length marks ≡ count
  pub each : (k : ℕ) → k < count → slice_get marks k ≡ Some (list_any (nat_eq k) ks)
