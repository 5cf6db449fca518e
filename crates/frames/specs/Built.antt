-- The parts of a frame as the code makes them. That they are the frame of the unit is shown in proofs/.
use Rattle.std.specs.Prelude.{◌≡◌, Bool, true, ◌&&◌, List, [], ◌∷◌, ℤ, pos, bytes_eq, if◌then◌else◌}
use Rattle.c_tree.specs.Plain.{Word, PlainExprs, no_exprs, more_exprs, PlainParam, int_param, array_param}
use Rattle.c_tree.specs.Trees.{word}
use Rattle.c_tree.specs.declared.affine.Affine.{Affine}
use Rattle.c_tree.specs.declared.name.Name.{Name}
use Rattle.c_tree.specs.declared.frame.ArrayInfo.{ArrayInfo}
use Rattle.affine_sets.specs.Expressions.{StandsFor, is_sum}

-- ---- ranges

abbrev pub line : Name × ℤ × ℤ → Word × ℤ × ℤ
line r = (word r.0, r.1, r.2)

-- the ends of the first range line of a name
abbrev pub ends_in : List (Word × ℤ × ℤ) → Word → ℤ × ℤ
ends_in [] x = (pos 0, pos 0)
ends_in (r ∷ rs) x = if bytes_eq r.0 x then (r.1, r.2) else ends_in rs x

abbrev pub with_ends : List (Word × ℤ × ℤ) → Name → Name × ℤ × ℤ
with_ends rs x = (x, (ends_in rs (word x)).0, (ends_in rs (word x)).1)

-- ---- arrays

-- each expression is affine over the names, with small parts
abbrev pub are_sums : List Word → PlainExprs → Bool
are_sums names no_exprs = true
are_sums names (more_exprs e es) = is_sum names e && are_sums names es

abbrev pub have_sums : List Word → List PlainParam → Bool
have_sums names [] = true
have_sums names (int_param x ∷ ps) = have_sums names ps
have_sums names (array_param x constant extents ∷ ps) = are_sums names extents && have_sums names ps

-- the sums that the expressions stand for
abbrev pub AreSums : List Word → PlainExprs → List Affine → Type 0
AreSums names no_exprs [] = Unit {0}
AreSums names no_exprs (sum ∷ sums) = ⊥
AreSums names (more_exprs e es) [] = ⊥
AreSums names (more_exprs e es) (sum ∷ sums) = StandsFor names e sum × AreSums names es sums

-- the arrays among these parameters in declared order, with the sums of their extents
abbrev pub HaveSums : List Word → List PlainParam → List ArrayInfo → Type 0
HaveSums names [] [] = Unit {0}
HaveSums names [] (a ∷ arrays) = ⊥
HaveSums names (int_param x ∷ ps) arrays = HaveSums names ps arrays
HaveSums names (array_param x constant extents ∷ ps) [] = ⊥
HaveSums names (array_param x constant extents ∷ ps) (a ∷ arrays) =
    (a.name.bytes ≡ x) × (a.constant ≡ constant) × AreSums names extents a.extents × HaveSums names ps arrays
