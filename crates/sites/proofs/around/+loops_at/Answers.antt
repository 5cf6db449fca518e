use Rattle.std.proofs.Common.{ap, map}
use Rattle.c_tree.specs.Names.{ints_in}
use Rattle.c_tree.specs.Trees.{param}
use Rattle.sites.specs.Outers.{outers_in}
use Rattle.sites.proofs.Fronts.{loops_more}
use Rattle.sites.proofs.around.+loops_at.Goals as goal

pub returns-in_ok-push-in-InLoop : goal.returns-in_ok-push-in-InLoop
returns-in_ok-push-in-InLoop t c =
    loops_more (ints_in (map param c.args.params.now)) _ _ _ _ _ _ _ _ _ (ap outers_in c.in-InLoop.is) c.in_ok-list-in-InLoop.ensures c.in_ok-v-in-InLoop.ensures.same (c.in_ok-loop_info-in-InLoop.ensures c.in-InLoop.field-2.now.bytes) c.in_ok-push-in-InLoop.ensures.ok
