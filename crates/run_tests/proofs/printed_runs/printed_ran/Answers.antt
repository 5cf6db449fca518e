use Rattle.std.proofs.Common.{sym, subst, inr}
use Rattle.acceptance.specs.Runnable.{IsRunnable}
use Rattle.c_tree.specs.Trees.{unit as tree}
use Rattle.c_tree.specs.declared.unit.Unit.{Unit as TheUnit}
use Rattle.run_tests.proofs.printed_runs.printed_ran.Goals as goal

pub ended-requires-clause-form : goal.ended-requires-clause-form
ended-requires-clause-form c = subst (λ (u : TheUnit). IsRunnable (tree u)) (sym c.unit.ensures) (inr c.in_ok-printed.ensures.accepted)
