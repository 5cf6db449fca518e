use Rattle.std.proofs.Common.{◌*ℤ◌, FitsSigned, rules}
use Rattle.std.specs.Int.{w64, w128}
use Rattle.std.proofs.lemmas.Int.{to_z-of_z}
use Rattle.affine_sets.proofs.Sizes.{product_lies, product_fits}
use Rattle.affine_sets.proofs.bounds.product.Goals as goal

pub returns-clause-size : goal.returns-clause-size
returns-clause-size c =
    let a = c.args.coefficient in
    let b = c.args.end in
    let fa : FitsSigned w64 a = c.ranges.coefficient in
    let fb : FitsSigned w64 b = c.ranges.end in
    let ga : FitsSigned w128 a = search rules in
    let gb : FitsSigned w128 b = search rules in
    let gp : FitsSigned w128 (a *ℤ b) = product_fits a b c.requires fb in
    simp to_z-of_z (product_lies a b c.requires fb)
