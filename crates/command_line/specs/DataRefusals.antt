-- How a refusal of a data text is written.
use Rattle.std.specs.Prelude.{ℕ, ℤ, List, [], ◌++◌, Option, Some, None, codes, decimal, slice_get}
use Rattle.c_tree.specs.Plain.{Word}
use Rattle.c_tree.specs.declared.frame.Frame.{Frame}
use Rattle.c_tree.specs.declared.frame.ArrayInfo.{ArrayInfo}
use Rattle.c_tree.specs.declared.name.Name.{Name}
use Rattle.data_file.specs.declared.refusal.DataRefusal.{DataRefusal}
use Rattle.data_file.specs.declared.refusal.DataRefusal.TheVariants.{Syntax, OutOfRange, TooLarge, WrongCells, OutOfMemory}

abbrev pub range_name : Option (Name × ℤ × ℤ) → Word
range_name None = []
range_name (Some r) = r.0.bytes

abbrev pub array_name : Option ArrayInfo → Word
array_name None = []
array_name (Some a) = a.name.bytes

-- its number and name, with the names of parameters and arrays
abbrev pub data_refusal_text : Frame → DataRefusal → List ℕ
data_refusal_text f (Syntax line) = codes "I1 Syntax in line " ++ decimal line
data_refusal_text f (OutOfRange parameter) = codes "I2 OutOfRange " ++ range_name (slice_get f.ints parameter)
data_refusal_text f (TooLarge array) = codes "I3 TooLarge " ++ array_name (slice_get f.arrays array)
data_refusal_text f (WrongCells array wanted given) =
    codes "I4 WrongCells " ++ (array_name (slice_get f.arrays array) ++ (codes " " ++ (decimal wanted ++ (codes " " ++ decimal given))))
data_refusal_text f OutOfMemory = codes "out of memory"
