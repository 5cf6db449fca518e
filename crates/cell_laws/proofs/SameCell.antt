-- When two lists of coordinates are those of one cell.
use Rattle.std.proofs.Common.{ℤ, ◌≡◌, ◌≢◌, true, false, List, [], ◌∷◌, refl}
use Rattle.std.proofs.lemmas.Bool.{and_parts, and_from, false_from_ne_true, false≢true}
use Rattle.std.proofs.lemmas.Bool.Decides.{Decides-int_eq}
use Rattle.c_tree.specs.Arrays.{same_cell}

pub same_cell_refl : (c : List ℤ) → same_cell c c ≡ true
same_cell_refl [] = refl
same_cell_refl (i ∷ c) = and_from _ _ ((Decides-int_eq i i).1 refl) (same_cell_refl c)

pub same_cell-true : (c d : List ℤ) → same_cell c d ≡ true → c ≡ d
same_cell-true [] [] h = refl
same_cell-true [] (j ∷ d) h = absurd (false≢true h)
same_cell-true (i ∷ c) [] h = absurd (false≢true h)
same_cell-true (i ∷ c) (j ∷ d) h =
    let p = and_parts _ _ h in
    let a : i ≡ j = (Decides-int_eq i j).0 p.0 in
    let b = same_cell-true c d p.1 in
    cc

pub same_cell_other : (c d : List ℤ) → c ≢ d → same_cell c d ≡ false
same_cell_other c d ne = false_from_ne_true _ (λ h. ne (same_cell-true c d h))
