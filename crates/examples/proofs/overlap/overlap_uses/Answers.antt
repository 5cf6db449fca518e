use Rattle.std.proofs.Common.{refl}
use Rattle.c_tree.specs.Accesses.{latest, sum_below, uses}
use Rattle.examples.proofs.overlap.overlap_uses.Goals as goal

pub returns-clause-b_0 : goal.returns-clause-b_0
unfolding latest sum_below uses
returns-clause-b_0 c = refl

pub returns-clause-b_1 : goal.returns-clause-b_1
unfolding latest sum_below uses
returns-clause-b_1 c = refl

pub returns-clause-b_2 : goal.returns-clause-b_2
unfolding latest sum_below uses
returns-clause-b_2 c = refl

pub returns-clause-b_3 : goal.returns-clause-b_3
unfolding latest sum_below uses
returns-clause-b_3 c = refl
