-- Frames that say the same.
use Rattle.std.specs.Prelude.{◌≡◌, ℕ, List, [], ◌∷◌, length, map, ℤ}
use Rattle.c_tree.specs.declared.frame.ArrayInfo.{ArrayInfo}
use Rattle.c_tree.specs.declared.frame.Frame.{Frame}
use Rattle.data_file.specs.Checks.{sum_value}

-- Both have one name, and extents of the same values, whatever the values of the n parameters are.
pub record IsLike (n : ℕ) (a b : ArrayInfo) : Type 0 where
  pub name : a.name ≡ b.name
  pub constant : a.constant ≡ b.constant
  pub extents : (ns : List ℤ) → length ns ≡ n → map (sum_value ns) a.extents ≡ map (sum_value ns) b.extents

abbrev pub AreLike : ℕ → List ArrayInfo → List ArrayInfo → Type 0
AreLike n [] [] = Unit {0}
AreLike n [] (b ∷ others) = ⊥
AreLike n (a ∷ more) [] = ⊥
AreLike n (a ∷ more) (b ∷ others) = IsLike n a b × AreLike n more others

-- the same parameters with the same ranges, and arrays that are alike
pub record SayTheSame (f g : Frame) : Type 0 where
  pub ints : f.ints ≡ g.ints
  pub arrays : AreLike (length f.ints) f.arrays g.arrays
