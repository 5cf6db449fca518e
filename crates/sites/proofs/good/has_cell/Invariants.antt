use Rattle.std.proofs.Common.{◌≡◌, drop}
use Rattle.c_tree.specs.Trees.{exprs}
use Rattle.sites.specs.Classes as spec
use Rattle.sites.proofs.good.has_cell.Given as goal

abbrev pub invariant-loop-e : goal.invariant-loop-e
invariant-loop-e l = spec.has_cell (exprs l.e-items) ≡ spec.has_cell (exprs (drop l.e-index l.e-items))
