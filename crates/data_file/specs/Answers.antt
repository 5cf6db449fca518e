-- What reading a data file answers, and where.
use Rattle.std.specs.Prelude.{◌≡◌, ◌⊎◌, ℕ, List, length, Result, Ok, Err}
use Rattle.c_tree.specs.declared.frame.Frame.{Frame}
use Rattle.c_tree.specs.declared.frame.Inputs.{Inputs}
use Rattle.data_file.specs.declared.refusal.DataRefusal.{DataRefusal}
use Rattle.data_file.specs.declared.refusal.DataRefusal.TheVariants.{Syntax, OutOfRange, TooLarge, WrongCells, OutOfMemory}
use Rattle.data_file.specs.Meaning.{Means, IsBadLine, LacksRow}
use Rattle.data_file.specs.Checks.{NonePasses, IsFirst, is_outside, is_too_large, has_wrong_cells, wanted_cells, given_cells, Fits}

-- the text means inputs, and this parameter is the first whose value is outside its range
pub record FirstOutside (f : Frame) (text : List ℕ) (k : ℕ) : Type 0 where
  pub inputs : Inputs
  pub means : Means f text inputs
  pub first : IsFirst (is_outside f inputs.ints) (length f.ints) k

-- The text means inputs with all values within their ranges, and this array is the first with more than 4,194,304 cells.
pub record FirstTooLarge (f : Frame) (text : List ℕ) (k : ℕ) : Type 0 where
  pub inputs : Inputs
  pub means : Means f text inputs
  pub within : NonePasses (is_outside f inputs.ints) (length f.ints)
  pub first : IsFirst (is_too_large f inputs.ints) (length f.arrays) k

-- The text means inputs with all values within their ranges and no array too large, and this array is the first whose row has another number of cells.
pub record FirstWrong (f : Frame) (text : List ℕ) (k wanted given : ℕ) : Type 0 where
  pub inputs : Inputs
  pub means : Means f text inputs
  pub within : NonePasses (is_outside f inputs.ints) (length f.ints)
  pub few : NonePasses (is_too_large f inputs.ints) (length f.arrays)
  pub first : IsFirst (has_wrong_cells f inputs) (length f.arrays) k
  pub wants : wanted ≡ wanted_cells f inputs.ints k
  pub gives : given ≡ given_cells inputs.cells k

-- the text means inputs that fit
pub record MeansFitting (f : Frame) (text : List ℕ) (i : Inputs) : Type 0 where
  pub means : Means f text i
  pub fits : Fits f i

-- Which answer a text gets. Memory may run out at any text.
abbrev pub Answers : Frame → List ℕ → Result Inputs DataRefusal → Type 0
Answers f text (Ok i) = MeansFitting f text i
Answers f text (Err (Syntax n)) = IsBadLine f text n ⊎ LacksRow f text n
Answers f text (Err (OutOfRange k)) = FirstOutside f text k
Answers f text (Err (TooLarge k)) = FirstTooLarge f text k
Answers f text (Err (WrongCells k wanted given)) = FirstWrong f text k wanted given
Answers f text (Err OutOfMemory) = Unit {0}

-- the text is refused for this cause; want of memory is none
pub record IsRefused (f : Frame) (text : List ℕ) (why : DataRefusal) : Type 0 where
  pub answers : Answers f text (Err why)
  pub cause : why ≡ OutOfMemory → ⊥

-- the text means inputs that fit, or it is refused
abbrev pub IsAnswered : Frame → List ℕ → Type 0
IsAnswered f text = ((i : Inputs) × MeansFitting f text i) ⊎ ((why : DataRefusal) × IsRefused f text why)
