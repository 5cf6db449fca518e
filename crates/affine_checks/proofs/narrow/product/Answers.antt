use Rattle.std.proofs.Common.{◌≡◌, ℤ, ◌*ℤ◌, FitsSigned, rules}
use Rattle.std.specs.Int.{w64, w128, int_min, int_max}
use Rattle.std.proofs.lemmas.Int.{to_z-of_z}
use Rattle.acceptance.specs.Affine.{Interval, product}
use Rattle.affine_checks.proofs.narrow.product.Goals as goal

product_is : (w i j : Interval) (p q r s : ℤ) → w ≡ (int_min (int_min p q) (int_min r s), int_max (int_max p q) (int_max r s)) → p ≡ i.0 *ℤ j.0 → q ≡ i.0 *ℤ j.1 → r ≡ i.1 *ℤ j.0 → s ≡ i.1 *ℤ j.1 → w ≡ product i j
product_is w i j p q r s e ep eq er es = rw (ep, eq, er, es) at e

pub returns : goal.returns
returns c =
    let f : FitsSigned w128 c.times.result = search rules in
    let f2 : FitsSigned w128 c.times-2.result = search rules in
    let f3 : FitsSigned w128 c.times-3.result = search rules in
    let f4 : FitsSigned w128 c.times-4.result = search rules in
    let a : FitsSigned w64 c.args.i.least = search rules in
    let b : FitsSigned w64 c.args.i.greatest = search rules in
    let a' : FitsSigned w64 c.args.j.least = search rules in
    let b' : FitsSigned w64 c.args.j.greatest = search rules in
    product_is _ (c.args.i.least, c.args.i.greatest) (c.args.j.least, c.args.j.greatest) c.times.result c.times-2.result c.times-3.result c.times-4.result
    (simp to_z-of_z at c.from_corners.ensures) (simp to_z-of_z at c.times.ensures) (simp to_z-of_z at c.times-2.ensures) (simp to_z-of_z at c.times-3.ensures) (simp to_z-of_z at c.times-4.ensures)
