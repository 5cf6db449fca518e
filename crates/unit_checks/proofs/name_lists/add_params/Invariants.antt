use Rattle.std.proofs.Common.{◌≡◌, ◌++◌, map, drop}
use Rattle.c_tree.specs.Trees.{param}
use Rattle.acceptance.specs.Items.{param_name}
use Rattle.unit_checks.specs.Repeats.{names_at}
use Rattle.unit_checks.proofs.name_lists.add_params.Given as goal

abbrev pub invariant-loop-p : goal.invariant-loop-p
invariant-loop-p l = names_at l.names ++ map param_name (map param (drop l.p-index l.params)) ≡ names_at l.fn.names ++ map param_name (map param l.params)
