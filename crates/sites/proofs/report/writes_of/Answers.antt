use Rattle.std.proofs.Common.{◌≡◌, ◌∙◌, min, arith}
use Rattle.c_tree.specs.Trees.{unit}
use Rattle.sites.specs.Classes.{number}
use Rattle.sites.specs.Sites.{is_write, sites_of}
use Rattle.sites.proofs.FewSites.{few_of_them}
use Rattle.sites.proofs.report.writes_of.Goals as goal

pub returns : goal.returns
returns c =
    let u = unit c.args.unit.now in
    let x = c.args.array.now.bytes in
    let few = few_of_them u c.requires.refused_nowhere x is_write in
    let small : min (number is_write (sites_of u x)) 4294967295 ≡ number is_write (sites_of u x) = omega arith in
    c.number.ensures ∙ small
