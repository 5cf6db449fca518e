-- Values of the code without where they lie in memory, and what a function that reads a part of a text ensures.
use Rattle.std.specs.Prelude.{◌≡◌, Option, Some, None}
use Rattle.fault_plan.specs.Meaning.{PlainFlip}
use Rattle.fault_plan.specs.declared.line.NamedFlip.{NamedFlip}

abbrev pub plain : NamedFlip → PlainFlip
plain flip = record { array = flip.array.now; cell = flip.cell; bit = flip.bit; place = flip.place }

-- what was returned, seen by view, is what reading gives
abbrev pub Reads : {X Y : Type 0} → (X → Y) → Option X → Option Y → Type 0
Reads view None read = read ≡ None
Reads view (Some x) read = read ≡ Some (view x)
