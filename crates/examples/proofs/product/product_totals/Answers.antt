use Rattle.std.proofs.Common.{refl}
use Rattle.std.specs.Int.{int_wrap}
use Rattle.c_tree.specs.Accesses.{latest, sum_below, uses}
use Rattle.balance_laws.specs.Totals.{sum_cells, definition_sum, use_sum}
use Rattle.examples.proofs.product.product_totals.Goals as goal

pub returns-clause-a : goal.returns-clause-a
unfolding int_wrap latest sum_below uses sum_cells definition_sum use_sum
returns-clause-a c = refl

pub returns-clause-b : goal.returns-clause-b
unfolding int_wrap latest sum_below uses sum_cells definition_sum use_sum
returns-clause-b c = refl

pub returns-clause-c : goal.returns-clause-c
unfolding int_wrap latest sum_below uses sum_cells definition_sum use_sum
returns-clause-c c = refl
