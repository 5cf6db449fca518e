-- The frame of a unit: its parameters with their ranges, and its arrays with sums for extents.
use Rattle.std.specs.Prelude.{◌≡◌, ◌↔◌, ℕ, ◌^◌, ◌<◌, List, [], ◌∷◌, length, ℤ, Some}
use Rattle.std.specs.List.{AllByRecursion}
use Rattle.c_tree.specs.Arrays.{vars_of}
use Rattle.c_tree.specs.Inputs.{PlainInputs, range_of, Fit}
use Rattle.c_tree.specs.Plain.{Word, PlainExpr, PlainExprs, no_exprs, more_exprs, PlainParam, int_param, array_param, PlainUnit}
use Rattle.c_tree.specs.Values.{exact}
use Rattle.c_tree.specs.declared.affine.Affine.{Affine}
use Rattle.c_tree.specs.declared.name.Name.{Name}
use Rattle.c_tree.specs.declared.frame.ArrayInfo.{ArrayInfo}
use Rattle.c_tree.specs.declared.frame.Frame.{Frame}
use Rattle.c_tree.specs.declared.frame.Inputs.{Inputs}
use Rattle.data_file.specs.Answers.{MeansFitting}
use Rattle.data_file.specs.Checks.{sum_value, Fits}
use Rattle.data_file.specs.Conditions.{HasRows, IsFrame}

-- ---- which frame a unit has

-- the `int64_t` parameters in declared order, each with the ends of its range line
abbrev pub AreInts : List (Word × ℤ × ℤ) → List PlainParam → List (Name × ℤ × ℤ) → Type 0
AreInts rs [] [] = Unit {0}
AreInts rs [] (p ∷ ints) = ⊥
AreInts rs (array_param x constant extents ∷ ps) ints = AreInts rs ps ints
AreInts rs (int_param x ∷ ps) [] = ⊥
AreInts rs (int_param x ∷ ps) (p ∷ ints) = (p.0.bytes ≡ x) × (range_of rs x ≡ Some (p.1, p.2)) × AreInts rs ps ints

-- the sum has the value of the expression, whatever the values of the n parameters are
pub record IsExtent (ps : List PlainParam) (n : ℕ) (e : PlainExpr) (sum : Affine) : Type 0 where
  pub value : (ns : List ℤ) → length ns ≡ n → sum_value ns sum ≡ exact e (vars_of ps ns)

abbrev pub AreExtents : List PlainParam → ℕ → PlainExprs → List Affine → Type 0
AreExtents ps n no_exprs [] = Unit {0}
AreExtents ps n no_exprs (sum ∷ sums) = ⊥
AreExtents ps n (more_exprs e es) [] = ⊥
AreExtents ps n (more_exprs e es) (sum ∷ sums) = IsExtent ps n e sum × AreExtents ps n es sums

-- the arrays of the last of these parameters in declared order
abbrev pub AreArrays : List PlainParam → ℕ → List PlainParam → List ArrayInfo → Type 0
AreArrays ps n [] [] = Unit {0}
AreArrays ps n [] (a ∷ arrays) = ⊥
AreArrays ps n (int_param x ∷ rest) arrays = AreArrays ps n rest arrays
AreArrays ps n (array_param x constant extents ∷ rest) [] = ⊥
AreArrays ps n (array_param x constant extents ∷ rest) (a ∷ arrays) =
    (a.name.bytes ≡ x) × (a.constant ≡ constant) × AreExtents ps n extents a.extents × AreArrays ps n rest arrays

-- the frame is that of the unit
pub record IsFrameOf (u : PlainUnit) (f : Frame) : Type 0 where
  pub ints : AreInts u.ranges u.params f.ints
  pub arrays : AreArrays u.params (length f.ints) u.params f.arrays

-- ---- inputs that fit a unit, by its frame

-- inputs as values of the code
abbrev pub carried : PlainInputs → Inputs
carried i = record { ints = i.ints; cells = i.cells }

abbrev pub AreWords : List ℕ → Type 0
AreWords ns = AllByRecursion (λ n. n < 2 ^ 64) ns

-- inputs with a value or a row for each name, of words, that fit the frame
pub record FitsFrame (f : Frame) (i : PlainInputs) : Type 0 where
  pub rows : HasRows f (carried i)
  pub words : AllByRecursion AreWords i.cells
  pub fits : Fits f (carried i)

-- Inputs fit a unit exactly where they fit its frame.
abbrev pub FitsAsFrame : Type 0
FitsAsFrame = (u : PlainUnit) (f : Frame) (i : PlainInputs) → IsFrameOf u f → (Fit u i ↔ FitsFrame f i)

-- Inputs that a text means by the frame of a unit, and that fit it, fit the unit.
abbrev pub FitsAsMeant : Type 0
FitsAsMeant = (u : PlainUnit) (f : Frame) (text : List ℕ) (i : PlainInputs) → IsFrameOf u f → MeansFitting f text (carried i) → Fit u i
