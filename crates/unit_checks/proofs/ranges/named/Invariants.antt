use Rattle.std.proofs.Common.{◌≡◌, map, drop}
use Rattle.c_tree.specs.Trees.{param}
use Rattle.unit_checks.specs.Repeats.{are_named}
use Rattle.unit_checks.proofs.ranges.named.Given as goal

abbrev pub invariant-loop-p : goal.invariant-loop-p
invariant-loop-p l = are_named l.names (map param l.params) ≡ are_named l.names (map param (drop l.p-index l.params))
