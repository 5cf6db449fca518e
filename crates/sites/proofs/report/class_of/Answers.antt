use Rattle.std.proofs.Common.{◌∙◌}
use Rattle.c_tree.specs.Trees.{unit}
use Rattle.sites.specs.Asked.{ints_of, sites_in}
use Rattle.sites.proofs.Agrees.{class_same}
use Rattle.sites.proofs.SmallSites.{unit_small}
use Rattle.sites.proofs.report.class_of.Goals as goal

pub returns : goal.returns
returns c =
    let u = c.args.unit.now in
    let x = c.args.array.now.bytes in
    c.class_found.ensures ∙ class_same (ints_of u) (sites_in u x) (unit_small (unit u) c.requires.refused_nowhere x)
