-- What a shelf tells of itself, what a load answers, and what it leaves.
use Rattle.std.specs.Prelude.{◌≡◌, ℕ, ◌≤◌, IfOk, List, [], ◌∷◌, ◌++◌, length, Option, Some, None, option_map, Result, Ok, Err, nat_lt, if◌then◌else◌}
use Rattle.edge.specs.Causes.{Rose}
use Rattle.edge.specs.Files.{file_of}
use Rattle.edge.specs.declared.shelf.Loaded.{Loaded}
use Rattle.edge.specs.declared.shelf.Loaded.TheVariants.{Bytes, TooLong}
use Rattle.edge.specs.declared.shelf.ShelfFault.{ShelfFault}
use Rattle.edge.specs.declared.shelf.ShelfFault.TheVariants.{Failed, OutOfMemory}

-- what a shelf tells of itself: its files, the names asked so far, and how often it has failed
pub record Told : Type 0 where
  pub files : Option (List (List ℕ × List ℕ))
  pub asked : Option (List (List ℕ))
  pub faults : ℕ

-- the count never falls, `Failed` comes only where it rose, and every other answer leaves it
abbrev pub CountsFault : ℕ → ℕ → Result Loaded ShelfFault → Type 0
CountsFault before now (Ok loaded) = now ≡ before
CountsFault before now (Err Failed) = (before ≤ now) × Rose before now
CountsFault before now (Err OutOfMemory) = now ≡ before

-- the names asked, where they are told: one more, unless memory was wanting
abbrev pub asked_after : Option (List (List ℕ)) → List ℕ → Result Loaded ShelfFault → Option (List (List ℕ))
asked_after asked name (Ok loaded) = option_map (λ names. names ++ name ∷ []) asked
asked_after asked name (Err Failed) = option_map (λ names. names ++ name ∷ []) asked
asked_after asked name (Err OutOfMemory) = asked

-- `TooLong` exactly where there are more bytes than the limit, and else the bytes
abbrev pub loaded_of : ℕ → List ℕ → Loaded
loaded_of limit bytes = if nat_lt limit (length bytes) then TooLong else Bytes bytes

-- the file is there, and this is what a load gives of it, where the files are told
abbrev pub IsFound : Option (List (List ℕ × List ℕ)) → List ℕ → ℕ → Loaded → Type 0
IsFound None name limit loaded = Unit {0}
IsFound (Some files) name limit loaded = option_map (loaded_of limit) (file_of files name) ≡ Some loaded

-- no more bytes than the limit
abbrev pub FitsLimit : ℕ → Loaded → Type 0
FitsLimit limit (Bytes bytes) = length bytes ≤ limit
FitsLimit limit TooLong = Unit {0}

-- a load of the file with this name: what it does to what the shelf tells, and what it answers
pub record Loads (before now : Told) (name : List ℕ) (limit : ℕ) (result : Result Loaded ShelfFault) : Type 0 where
  pub count : CountsFault before.faults now.faults result
  pub asked : now.asked ≡ asked_after before.asked name result
  pub files : now.files ≡ before.files
  pub found : IfOk result (IsFound before.files name limit)
  pub within : IfOk result (FitsLimit limit)
