use Rattle.std.proofs.Common.{sym, subst, inr}
use Rattle.acceptance.specs.Runnable.{IsRunnable}
use Rattle.c_tree.specs.Trees.{unit as tree}
use Rattle.c_tree.specs.declared.unit.Unit.{Unit as TheUnit}
use Rattle.run_tests.proofs.struck.printed_struck.Goals as goal

pub ended_under-requires-clause-form : goal.ended_under-requires-clause-form
ended_under-requires-clause-form c = subst (λ (u : TheUnit). IsRunnable (tree u)) (sym c.unit.ensures) (inr c.in_ok-printed.ensures.accepted)
