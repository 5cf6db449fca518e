use Rattle.std.proofs.Common.{◌≡◌, ◌+◌, drop}
use Rattle.c_tree.specs.Trees.{stmts}
use Rattle.c_tree.specs.Instances.{sites_all}
use Rattle.unit_checks.specs.Counts.{saturated}
use Rattle.unit_checks.proofs.counts.+sites.Given as goal

abbrev pub invariant-assignments_in-loop-s : goal.invariant-assignments_in-loop-s
invariant-assignments_in-loop-s l = record {
  fits : saturated l.count ≡ l.count;
  rest : saturated (l.count + sites_all (stmts (drop l.s-index l.s-items))) ≡ saturated (sites_all (stmts l.s-items));
}
