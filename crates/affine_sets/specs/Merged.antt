-- The lists of terms that the code makes. What they stand for is shown in proofs/MergedLaws and proofs/ScaledLaws.
use Rattle.std.specs.Prelude.{if◌then◌else◌, nat_lt, List, [], ◌∷◌, ◌++◌, ℤ, pos, ◌+ℤ◌, ◌*ℤ◌}
use Rattle.std.specs.Ordering.{int_eq}
use Rattle.affine_sets.specs.Sums.{Term}
use Rattle.c_tree.specs.declared.affine.Affine.{Affine}

-- a term, unless its coefficient is 0
abbrev pub kept : Term → List Term
kept t = if int_eq t.1 (pos 0) then [] else t ∷ []

-- a term and the sum of what follows it, put into a list by its variable
abbrev pub put_in : Term → (List Term → List Term) → List Term → List Term
put_in x rest [] = x ∷ rest []
put_in x rest (y ∷ ys) =
    if nat_lt x.0 y.0 then x ∷ rest (y ∷ ys) else (if nat_lt y.0 x.0 then y ∷ put_in x rest ys else kept (x.0, x.1 +ℤ y.1) ++ rest ys)

abbrev pub merged : List Term → List Term → List Term
merged [] b = b
merged (x ∷ xs) b = put_in x (merged xs) b

abbrev pub scaled : ℤ → List Term → List Term
scaled factor [] = []
scaled factor (t ∷ ts) = kept (t.0, t.1 *ℤ factor) ++ scaled factor ts

abbrev pub sum_of : Affine → Affine → Affine
sum_of a b = record { constant = a.constant +ℤ b.constant; terms = merged a.terms b.terms }

abbrev pub multiple_of : ℤ → Affine → Affine
multiple_of factor a = record { constant = a.constant *ℤ factor; terms = scaled factor a.terms }
