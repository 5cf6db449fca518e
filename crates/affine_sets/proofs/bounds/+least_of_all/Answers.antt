use Rattle.std.proofs.Common.{pos, FitsSigned, length, rules}
use Rattle.std.specs.Int.{w128, int_min}
use Rattle.std.proofs.lemmas.Int.{to_z-of_z}
use Rattle.affine_sets.proofs.EndSteps.{rest, ends_step, size_step}
use Rattle.affine_sets.proofs.bounds.+least_of_all.Goals as goal

pub returns-in-len1-up-clause-value : goal.returns-in-len1-up-clause-value
returns-in-len1-up-clause-value t c =
    let fits : FitsSigned w128 c.added.result = search rules in
    let fits_end : FitsSigned w128 c.least_of-end.result = search rules in
    let fits_more : FitsSigned w128 c.least_of_all-more.result = search rules in
    simp to_z-of_z
    (ends_step int_min c.args.within.now c.args.left.now (0, pos 0) c.added.result c.least_of-end.result c.least_of_all-more.result c.in-len1-up.len_at_least
    (simp to_z-of_z at c.added.ensures.value)
    c.least_of-end.ensures.value
    c.least_of_all-more.ensures.value)

pub returns-in-len1-up-clause-size : goal.returns-in-len1-up-clause-size
returns-in-len1-up-clause-size t c =
    let fits : FitsSigned w128 c.added.result = search rules in
    let fits_more : FitsSigned w128 c.least_of_all-more.result = search rules in
    simp to_z-of_z
    (size_step c.args.left.now c.added.result c.in-len1-up.len_at_least (c.added.ensures.size (length (rest c.args.left.now)) (simp to_z-of_z c.least_of_all-more.ensures.size)))
