use Rattle.std.proofs.Common.{map}
use Rattle.c_tree.specs.Names.{ints_in}
use Rattle.c_tree.specs.Trees.{param}
use Rattle.sites.specs.Outers.{outers_in}
use Rattle.sites.specs.Variables.{variables_around}
use Rattle.sites.proofs.Renumbering.{held_after}
use Rattle.sites.proofs.variables.variables_at.Goals as goal

pub returns-clause-same : goal.returns-clause-same
returns-clause-same c =
    held_after c.usable.result c.in_ok-around.field-0 (variables_around (ints_in (map param c.args.params.now)) (outers_in c.args.outers.now)) c.usable.ensures c.in_ok-around.ensures
