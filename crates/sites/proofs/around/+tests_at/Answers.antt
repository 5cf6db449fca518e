use Rattle.std.proofs.Common.{ap, map}
use Rattle.c_tree.specs.Names.{ints_in}
use Rattle.c_tree.specs.Trees.{param}
use Rattle.sites.specs.Outers.{outers_in}
use Rattle.sites.proofs.Fronts.{tests_more}
use Rattle.sites.proofs.around.+tests_at.Goals as goal

pub returns-in_ok-push-in-InBranch : goal.returns-in_ok-push-in-InBranch
returns-in_ok-push-in-InBranch t c =
    tests_more (ints_in (map param c.args.params.now)) _ _ _ _ _ _ _ _ _ (ap outers_in c.in-InBranch.is) c.in_ok-list-in-InBranch.ensures c.in_ok-v-in-InBranch.ensures.same c.in_ok-test_info-in-InBranch.ensures c.in_ok-push-in-InBranch.ensures.ok
