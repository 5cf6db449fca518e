use Rattle.std.proofs.Common.{◌≡◌, ◌≤◌, ◌++◌, map, drop}
use Rattle.c_tree.specs.Names.{words}
use Rattle.c_tree.specs.Trees.{param}
use Rattle.acceptance.specs.Printed.{total_names_from}
use Rattle.unit_checks.proofs.totals.total_names.Given as goal

abbrev pub invariant-loop-p : goal.invariant-loop-p
invariant-loop-p l = record {
  counted : l.array ≤ l.p-index;
  rest : words l.names ++ total_names_from l.array (map param (drop l.p-index l.params)) ≡ total_names_from 0 (map param l.params);
}
