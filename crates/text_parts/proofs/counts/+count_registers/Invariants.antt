use Rattle.std.proofs.Common.{◌≡◌, ◌≤◌, max, drop}
use Rattle.c_tree.specs.Trees.{stmts}
use Rattle.instrumentation.specs.Body.{registers_all}
use Rattle.text_parts.proofs.counts.+count_registers.Given as goal

abbrev pub invariant-count_registers_of_all-loop-s : goal.invariant-count_registers_of_all-loop-s
invariant-count_registers_of_all-loop-s l = record {
  few : registers_all (stmts (drop l.s-index l.s-items)) ≤ registers_all (stmts l.s-items);
  rest : max l.most (registers_all (stmts (drop l.s-index l.s-items))) ≡ registers_all (stmts l.s-items);
}
