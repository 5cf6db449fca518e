-- The interval of a sum, where each variable, numbered from 1, has a pair that its value lies within.
use Rattle.std.specs.Prelude.{◌≡◌, ℕ, ◌-◌, ◌<◌, ◌≤◌, List, [], ◌∷◌, length, slice_index_or, ℤ, pos, ◌+ℤ◌, ◌*ℤ◌, ◌≤ℤ◌}
use Rattle.std.specs.Int.{int_min, int_max}
use Rattle.c_tree.specs.declared.affine.Affine.{Affine}
use Rattle.affine_sets.specs.Sums.{Term, value_at}

abbrev pub Pair : Type 0
Pair = ℤ × ℤ

abbrev pub pair_of : List Pair → ℕ → Pair
pair_of within v = slice_index_or within (v - 1) (pos 0, pos 0)

-- the chosen ends of the terms, added up; those of a term are its coefficient times the ends of its pair
abbrev pub ends : (ℤ → ℤ → ℤ) → List Pair → List Term → ℤ
ends choose within [] = pos 0
ends choose within (t ∷ ts) = choose (t.1 *ℤ (pair_of within t.0).0) (t.1 *ℤ (pair_of within t.0).1) +ℤ ends choose within ts

abbrev pub interval_of : Affine → List Pair → ℤ × ℤ
interval_of a within = (a.constant +ℤ ends int_min within a.terms, a.constant +ℤ ends int_max within a.terms)

abbrev pub LiesWithin : Pair → ℤ → Type 0
LiesWithin p z = (p.0 ≤ℤ z) × (z ≤ℤ p.1)

-- each variable's value lies within its pair
abbrev pub IsPoint : List Pair → (ℕ → ℤ) → Type 0
IsPoint within point = (v : ℕ) → 0 < v → v ≤ length within → LiesWithin (pair_of within v) (point v)

-- no pair is empty
abbrev pub HasPoints : List Pair → Type 0
HasPoints within = (v : ℕ) → 0 < v → v ≤ length within → (pair_of within v).0 ≤ℤ (pair_of within v).1

-- the sum comes to z at some point
abbrev pub IsReached : Affine → List Pair → ℤ → Type 0
IsReached a within z = (point : ℕ → ℤ) × IsPoint within point × (value_at point a ≡ z)
