use Rattle.std.proofs.Common.{refl}
use Rattle.std.specs.Int.{int_wrap}
use Rattle.c_tree.specs.Accesses.{latest, sum_below, uses}
use Rattle.examples.proofs.gather.gather_runs.Goals as goal

pub returns-clause-verdict : goal.returns-clause-verdict
unfolding int_wrap
returns-clause-verdict c = refl

pub returns-clause-arrays : goal.returns-clause-arrays
unfolding int_wrap
returns-clause-arrays c = refl

pub returns-clause-x_0 : goal.returns-clause-x_0
unfolding latest sum_below uses
returns-clause-x_0 c = refl

pub returns-clause-x_1 : goal.returns-clause-x_1
unfolding latest sum_below uses
returns-clause-x_1 c = refl
