use Rattle.affine_sets.proofs.Limits.{sum_more}
use Rattle.affine_sets.proofs.OrderedLaws.{terms_are_determined, terms_are_few}
use Rattle.affine_sets.proofs.Sizes.{multiples_lie}
use Rattle.affine_sets.proofs.SmallLaws.{each_lies}
use Rattle.affine_sets.proofs.laws.ordered_sums.Goals as goal

pub returns-clause-determined : goal.returns-clause-determined
returns-clause-determined c = terms_are_determined

pub returns-clause-few : goal.returns-clause-few
returns-clause-few c = terms_are_few

pub returns-clause-coefficients : goal.returns-clause-coefficients
returns-clause-coefficients c = λ m ts o h. each_lies m 0 ts o h

pub returns-clause-limits : goal.returns-clause-limits
returns-clause-limits c = sum_more

pub returns-clause-multiples : goal.returns-clause-multiples
returns-clause-multiples c = multiples_lie
