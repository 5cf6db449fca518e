use Rattle.std.proofs.Common.{◌≡◌, ◌≤◌, drop}
use Rattle.c_tree.specs.Trees.{stmts}
use Rattle.c_tree.specs.Instances.{sites_all}
use Rattle.unit_builder.specs.Parts.{target_among}
use Rattle.unit_builder.proofs.targets.+target_in.Given as goal

abbrev pub invariant-target_among-loop-s : goal.invariant-target_among-loop-s
invariant-target_among-loop-s l = record {
  few : sites_all (stmts (drop l.s-index l.s-items)) ≤ sites_all (stmts l.s-items);
  rest : target_among (stmts (drop l.s-index l.s-items)) l.left ≡ target_among (stmts l.s-items) l.fn.number;
}
