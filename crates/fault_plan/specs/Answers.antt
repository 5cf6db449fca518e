-- What reading a flip file answers, and where.
use Rattle.std.specs.Prelude.{◌≡◌, ◌⊎◌, ℕ, ◌^◌, ◌<◌, ◌≤◌, List, length, slice_get, Some, Result, Ok, Err}
use Rattle.c_tree.specs.declared.frame.Frame.{Frame}
use Rattle.c_tree.specs.declared.frame.ArrayInfo.{ArrayInfo}
use Rattle.c_tree.specs.declared.frame.Inputs.{Inputs}
use Rattle.c_tree.specs.declared.run.Flip.{Flip}
use Rattle.data_file.specs.Checks.{wanted_cells}
use Rattle.fault_plan.specs.Meaning.{PlainFlip, Says, MeansFlip}
use Rattle.fault_plan.specs.declared.refusal.FlipRefusal.{FlipRefusal}
use Rattle.fault_plan.specs.declared.refusal.FlipRefusal.TheVariants.{Syntax, UnknownArray, CellOutside, BitOutside, OutOfMemory}

-- A flip that fits: its array exists, the array has the cell for these parameters, and a word has the bit.
pub record FitsInputs (f : Frame) (i : Inputs) (flip : Flip) : Type 0 where
  pub array : flip.array < length f.arrays
  pub cell : flip.cell < wanted_cells f i.ints flip.array
  pub bit : flip.bit ≤ 63

-- the text means a flip that fits
pub record MeansFitting (f : Frame) (i : Inputs) (text : List ℕ) (flip : Flip) : Type 0 where
  pub means : MeansFlip f text flip
  pub fits : FitsInputs f i flip

-- the text says no flip
abbrev pub SaysNone : List ℕ → Type 0
SaysNone text = (flip : PlainFlip) → Says text flip → ⊥

-- the text says a flip, and no array has the name
pub record NamesNone (f : Frame) (text : List ℕ) : Type 0 where
  pub flip : PlainFlip
  pub says : Says text flip
  pub unknown : (k : ℕ) (a : ArrayInfo) → slice_get f.arrays k ≡ Some a → a.name.bytes ≡ flip.array → ⊥

-- the text means a flip, and its array doesn't have the cell
pub record LeavesCells (f : Frame) (i : Inputs) (text : List ℕ) : Type 0 where
  pub flip : Flip
  pub means : MeansFlip f text flip
  pub outside : wanted_cells f i.ints flip.array ≤ flip.cell

-- the text means a flip, its array has the cell, and a word doesn't have the bit
pub record LeavesBits (f : Frame) (i : Inputs) (text : List ℕ) : Type 0 where
  pub flip : Flip
  pub means : MeansFlip f text flip
  pub within : flip.cell < wanted_cells f i.ints flip.array
  pub outside : 63 < flip.bit

-- Which answer a text gets. No memory is taken: want of it is the answer only where the number of an array has no room.
abbrev pub Answers : Frame → Inputs → List ℕ → Result Flip FlipRefusal → Type 0
Answers f i text (Ok flip) = MeansFitting f i text flip
Answers f i text (Err Syntax) = SaysNone text
Answers f i text (Err UnknownArray) = NamesNone f text
Answers f i text (Err CellOutside) = LeavesCells f i text
Answers f i text (Err BitOutside) = LeavesBits f i text
Answers f i text (Err OutOfMemory) = 2 ^ 32 < length f.arrays

-- the text is refused for this cause; want of memory is none
pub record IsRefused (f : Frame) (i : Inputs) (text : List ℕ) (why : FlipRefusal) : Type 0 where
  pub answers : Answers f i text (Err why)
  pub cause : why ≡ OutOfMemory → ⊥

-- the text means a flip that fits, or it is refused
abbrev pub IsAnswered : Frame → Inputs → List ℕ → Type 0
IsAnswered f i text = ((flip : Flip) × MeansFitting f i text flip) ⊎ ((why : FlipRefusal) × IsRefused f i text why)
