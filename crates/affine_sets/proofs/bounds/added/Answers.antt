use Rattle.std.proofs.Common.{◌+ℤ◌, FitsSigned, rules}
use Rattle.std.specs.Int.{w128}
use Rattle.std.proofs.lemmas.Int.{to_z-of_z}
use Rattle.affine_sets.proofs.Sizes.{added_lies, added_fits}
use Rattle.affine_sets.proofs.bounds.added.Goals as goal

pub returns-clause-size : goal.returns-clause-size
returns-clause-size c = λ n h.
    let a = c.args.end.now in
    let b = c.args.more.now in
    let fa : FitsSigned w128 a = search rules in
    let fb : FitsSigned w128 b = search rules in
    let fs : FitsSigned w128 (a +ℤ b) = added_fits a b c.requires.left c.requires.right in
    simp to_z-of_z (added_lies a b n c.requires.left h)
