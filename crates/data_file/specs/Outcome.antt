-- What a function that reads a part of a text ensures: that it gives what reading gives.
use Rattle.std.specs.Prelude.{◌≡◌, ℕ, Option, Some, None, Result, Ok, Err}
use Rattle.c_tree.specs.declared.frame.Inputs.{Inputs}
use Rattle.data_file.specs.declared.refusal.DataRefusal.{DataRefusal}
use Rattle.data_file.specs.declared.refusal.DataRefusal.TheVariants.{Syntax, OutOfMemory}

-- what was returned, seen by view, is what reading gives
abbrev pub Reads : {X Y : Type 0} → (X → Y) → Option X → Option Y → Type 0
Reads view None read = read ≡ None
Reads view (Some x) read = read ≡ Some (view x)

-- the inputs that were read, or the first bad line, unless memory ran out
abbrev pub Finds : Result Inputs DataRefusal → Result Inputs ℕ → Type 0
Finds (Ok i) read = read ≡ Ok i
Finds (Err (Syntax n)) read = read ≡ Err n
Finds (Err OutOfMemory) read = Unit {0}
Finds (Err _) read = ⊥
