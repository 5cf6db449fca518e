use Rattle.std.proofs.Common.{refl}
use Rattle.std.specs.Int.{int_wrap}
use Rattle.examples.proofs.product.product_runs.Goals as goal

pub returns-clause-verdict : goal.returns-clause-verdict
unfolding int_wrap
returns-clause-verdict c = refl

pub returns-clause-arrays : goal.returns-clause-arrays
unfolding int_wrap
returns-clause-arrays c = refl

pub returns-clause-turns : goal.returns-clause-turns
unfolding int_wrap
returns-clause-turns c = refl

pub returns-clause-makes : goal.returns-clause-makes
unfolding int_wrap
returns-clause-makes c = refl
