use Rattle.std.proofs.Common.{refl}
use Rattle.c_tree.specs.Accesses.{latest, sum_below, uses}
use Rattle.examples.proofs.shift.shift_uses.Goals as goal

pub returns-clause-initial_0 : goal.returns-clause-initial_0
unfolding latest sum_below uses
returns-clause-initial_0 c = refl

pub returns-clause-initial_1 : goal.returns-clause-initial_1
unfolding latest sum_below uses
returns-clause-initial_1 c = refl

pub returns-clause-initial_2 : goal.returns-clause-initial_2
unfolding latest sum_below uses
returns-clause-initial_2 c = refl

pub returns-clause-initial_3 : goal.returns-clause-initial_3
unfolding latest sum_below uses
returns-clause-initial_3 c = refl

pub returns-clause-written_1 : goal.returns-clause-written_1
unfolding latest sum_below uses
returns-clause-written_1 c = refl

pub returns-clause-written_3 : goal.returns-clause-written_3
unfolding latest sum_below uses
returns-clause-written_3 c = refl

pub returns-clause-written_5 : goal.returns-clause-written_5
unfolding latest sum_below uses
returns-clause-written_5 c = refl
