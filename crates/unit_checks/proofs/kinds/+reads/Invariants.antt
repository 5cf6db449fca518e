use Rattle.std.proofs.Common.{◌≡◌, drop}
use Rattle.c_tree.specs.Trees.{exprs}
use Rattle.acceptance.specs.Printed.{all_read_no_array}
use Rattle.scopes.specs.Scopes.{scope_in}
use Rattle.unit_checks.proofs.kinds.+reads.Given as goal

abbrev pub invariant-all_read_no_array-loop-e : goal.invariant-all_read_no_array-loop-e
invariant-all_read_no_array-loop-e l = all_read_no_array (scope_in l.sc) (exprs l.e-items) ≡ all_read_no_array (scope_in l.sc) (exprs (drop l.e-index l.e-items))
