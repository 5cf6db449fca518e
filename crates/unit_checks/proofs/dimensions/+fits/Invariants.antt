use Rattle.std.proofs.Common.{◌≡◌, drop}
use Rattle.c_tree.specs.Trees.{exprs}
use Rattle.acceptance.specs.Printed.{all_fit_dimensions, dimensions}
use Rattle.scopes.specs.Scopes.{scope_in}
use Rattle.unit_checks.proofs.dimensions.+fits.Given as goal

abbrev pub invariant-all_fit-loop-e : goal.invariant-all_fit-loop-e
invariant-all_fit-loop-e l = all_fit_dimensions (dimensions (scope_in l.sc)) (exprs l.e-items) ≡ all_fit_dimensions (dimensions (scope_in l.sc)) (exprs (drop l.e-index l.e-items))
