use Rattle.std.proofs.Common.{◌≡◌, ◌+◌, drop}
use Rattle.c_tree.specs.Trees.{stmts}
use Rattle.c_tree.specs.Instances.{sites_all}
use Rattle.text_parts.proofs.counts.+count_sites.Given as goal

abbrev pub invariant-count_sites_of_all-loop-s : goal.invariant-count_sites_of_all-loop-s
invariant-count_sites_of_all-loop-s l = l.count + sites_all (stmts (drop l.s-index l.s-items)) ≡ sites_all (stmts l.s-items)
