use Rattle.std.proofs.Common.{◌≡◌, ◌+◌, ◌++◌, drop}
use Rattle.c_tree.specs.Trees.{stmts}
use Rattle.c_tree.specs.Instances.{sites_all}
use Rattle.count_loops.specs.Assignments.{assignments_all}
use Rattle.count_loops.proofs.numbers.+add_numbers.Given as goal

abbrev pub invariant-add_all_numbers-loop-s : goal.invariant-add_all_numbers-loop-s
invariant-add_all_numbers-loop-s l = record {
  following : l.next + sites_all (stmts (drop l.s-index l.s-items)) ≡ l.fn.next + sites_all (stmts l.s-items);
  rest : l.out ++ assignments_all (stmts (drop l.s-index l.s-items)) l.next ≡ l.fn.out ++ assignments_all (stmts l.s-items) l.fn.next;
}
