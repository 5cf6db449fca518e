use Rattle.std.proofs.Common.{refl}
use Rattle.sites.proofs.Collecting.{then_reaches}
use Rattle.sites.proofs.collect.set_from.Goals as goal

pub returns : goal.returns
returns c = then_reaches c.args.place.now c.args.count c.in_ok-next.next _ _ _ _ _ _ c.set.result refl c.in_ok-next.ensures c.set.ensures
