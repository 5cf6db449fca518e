use Rattle.std.proofs.Common.{◌≡◌, drop}
use Rattle.c_tree.specs.Trees.{exprs}
use Rattle.sites.specs.Classes as spec
use Rattle.sites.specs.Small.{where_small}
use Rattle.sites.proofs.occurs.exprs_name.Given as goal

abbrev pub invariant-loop-e : goal.invariant-loop-e
invariant-loop-e l = spec.exprs_name where_small l.x.bytes (exprs l.e-items) ≡ spec.exprs_name where_small l.x.bytes (exprs (drop l.e-index l.e-items))
