use Rattle.std.proofs.Common.{◌≡◌, ◌^◌, ◌*ℤ◌, pos, true, FitsSigned, lit≤, sym, subst}
use Rattle.std.specs.Int.{w64}
use Rattle.std.proofs.lemmas.Bool.{and_parts}
use Rattle.std.proofs.lemmas.Int.{to_z-of_z}
use Rattle.acceptance.specs.Affine.{lies_in}
use Rattle.c_tree.specs.declared.affine.Affine.{Affine}
use Rattle.affine_sets.specs.Sums.{products_lie_in, sum_lies_in}
use Rattle.affine_sets.proofs.Limits.{products_more}
use Rattle.affine_sets.proofs.ScaledLaws.{multiple_lies}
use Rattle.affine_sets.proofs.small.small_multiple.Goals as goal

pub multiple_of-requires-clause-terms : goal.multiple_of-requires-clause-terms
multiple_of-requires-clause-terms c =
    let k = c.args.factor in
    let a = c.args.a.now in
    let fits : FitsSigned w64 k = c.ranges.factor in
    let h = and_parts (lies_in (pos (2 ^ 44)) (a.constant *ℤ k)) (products_lie_in (pos (2 ^ 44)) k a.terms) (sym (simp to_z-of_z at c.if-has_small_products.ensures)) in
    simp to_z-of_z (products_more (2 ^ 44) (2 ^ 60) (lit≤ tt) k a.terms h.1)

pub returns-in_ok-multiple_of-clause-small : goal.returns-in_ok-multiple_of-clause-small
returns-in_ok-multiple_of-clause-small c =
    let k = c.args.factor in
    let a = c.args.a.now in
    let fits : FitsSigned w64 k = c.ranges.factor in
    let h = and_parts (lies_in (pos (2 ^ 44)) (a.constant *ℤ k)) (products_lie_in (pos (2 ^ 44)) k a.terms) (sym (simp to_z-of_z at c.if-has_small_products.ensures)) in
    let P : Affine → Type 0 = λ s. sum_lies_in (pos (2 ^ 44)) s ≡ true in
    subst P (sym (simp to_z-of_z at c.in_ok-multiple_of.ensures)) (multiple_lies (pos (2 ^ 44)) k a h.0 h.1)
