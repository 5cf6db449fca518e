use Rattle.std.proofs.Common.{◌≡◌, ◌≤◌, ◌+◌, map, drop}
use Rattle.c_tree.specs.Trees.{param}
use Rattle.acceptance.specs.Limits.{int_count}
use Rattle.unit_checks.proofs.counts.int_count.Given as goal

abbrev pub invariant-loop-p : goal.invariant-loop-p
invariant-loop-p l = record {
  fits : l.count ≤ l.p-index;
  rest : l.count + int_count (map param (drop l.p-index l.p-items)) ≡ int_count (map param l.p-items);
}
