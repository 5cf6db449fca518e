use Rattle.std.proofs.Common.{ap}
use Rattle.c_tree.specs.Trees.{tests}
use Rattle.sites.specs.Infos.{ShowsSides}
use Rattle.sites.specs.Variables.{variables_in}
use Rattle.sites.proofs.Fronts.{one_further, at_last, test_left, tests_left}
use Rattle.sites.proofs.around.sides.Goals as goal

pub loop-test-preserved : goal.loop-test-preserved
loop-test-preserved c =
    one_further (ShowsSides (variables_in c.args.v.now)) _ _ _ _ _ _ _ c.loop-test.invariant
    (test_left c.as_slice-test-items.result.now c.loop-test.test-index c.test-item.result c.loop-test-test.true c.test-item.is) c.in_ok-side.ensures c.in_ok-push.ensures.ok

pub returns : goal.returns
returns c =
    at_last (ShowsSides (variables_in c.args.v.now)) _ _ _ _ (ap tests c.as_slice-test-items.ensures) c.loop-test.invariant
    (tests_left c.as_slice-test-items.result.now c.loop-test.test-index c.loop-test-test.false)
