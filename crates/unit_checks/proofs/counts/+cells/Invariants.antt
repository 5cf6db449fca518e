use Rattle.std.proofs.Common.{◌≡◌, ◌+◌, drop}
use Rattle.c_tree.specs.Trees.{exprs}
use Rattle.acceptance.specs.Limits.{cells_in_all}
use Rattle.unit_checks.specs.Counts.{saturated}
use Rattle.unit_checks.proofs.counts.+cells.Given as goal

abbrev pub invariant-cells_in_all-loop-e : goal.invariant-cells_in_all-loop-e
invariant-cells_in_all-loop-e l = record {
  fits : saturated l.count ≡ l.count;
  rest : saturated (l.count + cells_in_all (exprs (drop l.e-index l.e-items))) ≡ saturated (cells_in_all (exprs l.e-items));
}
