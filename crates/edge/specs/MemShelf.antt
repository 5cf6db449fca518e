-- A shelf in memory: that it tells everything, and which of its loads fail.
use Rattle.std.specs.Prelude.{◌≡◌, ℕ, ◌+◌, List, length, Option, Some, None, option_map, Result, Ok, Err, if◌then◌else◌}
use Rattle.edge.specs.Files.{file_of, has_number}
use Rattle.edge.specs.Shelf.{Told, loaded_of}
use Rattle.edge.specs.declared.mem_shelf.MemShelf.{MemShelf}
use Rattle.edge.specs.declared.shelf.Loaded.{Loaded}
use Rattle.edge.specs.declared.shelf.ShelfFault.{ShelfFault}
use Rattle.edge.specs.declared.shelf.ShelfFault.TheVariants.{Failed, OutOfMemory}

-- what it tells
abbrev pub shelf_told : MemShelf → Told
shelf_told shelf = record { files = Some shelf.files; asked = Some shelf.asked; faults = shelf.faults }

-- the number that the next name asked has, from 1
abbrev pub load_number : MemShelf → ℕ
load_number shelf = length shelf.asked + 1

-- What the next load answers. It is None, a failure, where its number is one of those that fail,
-- or no file has the name.
abbrev pub load_answer : MemShelf → List ℕ → ℕ → Option Loaded
load_answer shelf name limit =
    if has_number shelf.failing (load_number shelf) then None
    else option_map (loaded_of limit) (file_of shelf.files name)

-- the result is that answer, unless memory is wanting
abbrev pub IsAnswer : Option Loaded → Result Loaded ShelfFault → Type 0
IsAnswer answer (Ok loaded) = answer ≡ Some loaded
IsAnswer answer (Err Failed) = answer ≡ None
IsAnswer answer (Err OutOfMemory) = Unit {0}
