-- The conditions of these units compute.
use Rattle.std.proofs.Common.{refl}
use Rattle.std.specs.Fmt.{digits}
use Rattle.acceptance.proofs.worked_refusals.Goals as goal

pub returns-clause-accepted : goal.returns-clause-accepted
unfolding digits
returns-clause-accepted c = refl

pub returns-clause-used_undeclared : goal.returns-clause-used_undeclared
unfolding digits
returns-clause-used_undeclared c = refl

pub returns-clause-total_of_cells : goal.returns-clause-total_of_cells
unfolding digits
returns-clause-total_of_cells c = refl

pub returns-clause-bound_of_words : goal.returns-clause-bound_of_words
unfolding digits
returns-clause-bound_of_words c = refl
