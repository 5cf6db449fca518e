use Rattle.std.proofs.Common.{◌≡◌, ◌++◌, drop}
use Rattle.c_tree.specs.Trees.{exprs}
use Rattle.sites.specs.Sites.{reads_in_all}
use Rattle.count_loops.specs.Assignments.{repeated}
use Rattle.count_loops.proofs.numbers.+add_reads.Given as goal

abbrev pub invariant-add_reads_of_all-loop-e : goal.invariant-add_reads_of_all-loop-e
invariant-add_reads_of_all-loop-e l =
    l.out ++ repeated l.number (reads_in_all (exprs (drop l.e-index l.e-items))) ≡ l.fn.out ++ repeated l.number (reads_in_all (exprs l.e-items))
