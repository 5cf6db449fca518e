-- Accesses outside their extents, in a list.
use Rattle.std.specs.Prelude.{◌≡◌, ◌⊎◌, ℕ, ◌<◌, false, List, length, ℤ}
use Rattle.c_tree.specs.Arrays.{is_within}
use Rattle.c_tree.specs.Accesses.{Access, at}
use Rattle.c_tree.specs.Run.{End, outside, index}

-- an access of array a is one
pub record IsLeft (extents : ℕ → List ℤ) (list : List Access) (a : ℕ) : Type 0 where
  pub position : ℕ
  pub exists : position < length list
  pub of_array : (at list position).array ≡ a
  pub outside_it : is_within (at list position).cell (extents a) ≡ false

-- outside of such an array, or at a check of an index of it
pub record TellsOfLeft (extents : ℕ → List ℤ) (list : List Access) (e : End) : Type 0 where
  pub array : ℕ
  pub ends : (e ≡ outside array) ⊎ (e ≡ index array)
  pub left : IsLeft extents list array
