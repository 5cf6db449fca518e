use Rattle.std.proofs.Common.{sym, ◌∙◌, arith, FitsSigned}
use Rattle.std.specs.Int.{w64, w128}
use Rattle.std.proofs.lemmas.Int.{to_z-of_z}
use Rattle.c_tree.proofs.WordValues.{as_wide_cast}
use Rattle.interp.proofs.words.as_wide.Goals as goal

pub returns : goal.returns
returns c =
    let z = c.args.z in
    let fits : FitsSigned w128 z = record { sfits = omega (arith, c.ranges.z.sfits) } in
    let given = simp (to_z-of_z w64 z c.ranges.z, to_z-of_z w128 z fits) at c.cast_unsigned.ensures in
    given ∙ sym (as_wide_cast z fits)
