use Rattle.sites.proofs.Collecting.{then_reaches, cell_accesses}
use Rattle.sites.proofs.collect.accesses.Goals as goal

pub returns-in_ok-next-in-Cell : goal.returns-in_ok-next-in-Cell
returns-in_ok-next-in-Cell c =
    then_reaches c.args.place.now c.args.count c.in_ok-next-in-Cell.next _ _ _ _ _ _ c.set_from.result (cell_accesses c.args.target.now c.in-Cell.x c.in-Cell.at c.args.op _ c.in-Cell.is) c.in_ok-next-in-Cell.ensures c.set_from.ensures
