-- What the tables of inspected arrays keep: entries that stay as they were built, and for each of these arrays how many writes were made.
use Rattle.std.specs.Prelude.{ℕ, ◌+◌, Bool, false, ◌&&◌, ◌||◌, ◌==◌, if◌then◌else◌, List, [], ◌∷◌, bytes_eq}
use Rattle.c_tree.specs.Plain.{Word}
use Rattle.c_tree.specs.Accesses.{Access}
use Rattle.c_tree.specs.Instances.{untagged}
use Rattle.instrumentation.specs.Names.{written}
use Rattle.instrumentation_laws.specs.Kept.{Kept}

-- the writes of an array in a list
abbrev pub writes_in : List Access → ℕ → ℕ
writes_in [] a = 0
writes_in (x ∷ xs) a = (if x.writes && (x.array == a) then 1 else 0) + writes_in xs a

abbrev pub counts_one_of : List ℕ → Word → Bool
counts_one_of [] x = false
counts_one_of (a ∷ more) x = bytes_eq (written a) x || counts_one_of more x

abbrev pub count_of : List ℕ → List Access → Word → ℕ
count_of [] list x = 0
count_of (a ∷ more) list x = if bytes_eq (written a) x then writes_in list a else count_of more list x

-- the tables of these arrays have these entries
abbrev pub tables_kept : List ℕ → (Word → List ℕ) → Kept
tables_kept inspected entries = record { entries = entries; holds = counts_one_of inspected; counter = λ so_far x. count_of inspected (untagged so_far) x }
