use Rattle.std.proofs.Common.{◌≡◌, drop, map}
use Rattle.c_tree.specs.Names.{ints_in}
use Rattle.c_tree.specs.Trees.{exprs, param}
use Rattle.sites.specs.Classes as spec
use Rattle.sites.specs.Shown.{frames_in}
use Rattle.sites.specs.Small.{where_small}
use Rattle.sites.proofs.good.are_plain.Given as goal

abbrev pub invariant-loop-e : goal.invariant-loop-e
invariant-loop-e l =
    let names = spec.names_around (ints_in (map param l.unit.params)) (frames_in l.frames) in
    spec.are_plain where_small names (exprs l.e-items) ≡ spec.are_plain where_small names (exprs (drop l.e-index l.e-items))
