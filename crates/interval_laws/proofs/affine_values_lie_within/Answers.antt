use Rattle.interval_laws.proofs.Intervals.{exact_within, signed_exact}
use Rattle.interval_laws.proofs.Parameters.{value_within}
use Rattle.interval_laws.proofs.affine_values_lie_within.Goals as goal

pub returns-clause-values : goal.returns-clause-values
returns-clause-values c = exact_within

pub returns-clause-narrow : goal.returns-clause-narrow
returns-clause-narrow c = signed_exact

pub returns-clause-parameters : goal.returns-clause-parameters
returns-clause-parameters c = value_within
