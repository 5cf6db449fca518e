use Rattle.std.proofs.Common.{◌≡◌, ◌+◌, ◌++◌, ◌≤◌, map, drop, length}
use Rattle.c_tree.specs.Trees.{stmt, stmts}
use Rattle.c_tree.specs.Instances.{sites_all}
use Rattle.instrumentation.specs.Body.{instrument_all, registers_all}
use Rattle.text_parts.specs.Built.{pieces_in}
use Rattle.text_parts.specs.Numbered.{numbers, sizes}
use Rattle.text_parts.specs.Weight.{weight, weight_all}
use Rattle.body_builder.proofs.body.+instrument.Given as goal

abbrev pub decreases-add_instrumented : goal.decreases-add_instrumented
decreases-add_instrumented l = weight (stmt l.s.now)

abbrev pub decreases-instrumented : goal.decreases-instrumented
decreases-instrumented l = weight_all (stmts l.body.now)

abbrev pub invariant-instrumented-loop-s : goal.invariant-instrumented-loop-s
invariant-instrumented-loop-s l = record {
  given : l.next + sites_all (stmts (drop l.s-index l.s-items)) ≤ length l.pieces;
  few : registers_all (stmts (drop l.s-index l.s-items)) ≤ registers_all (stmts l.s-items);
  smaller : weight_all (stmts (drop l.s-index l.s-items)) ≤ weight_all (stmts l.s-items);
  rest : map stmt l.out ++ instrument_all (numbers l.params) (sizes l.params) (pieces_in l.pieces) l.next (stmts (drop l.s-index l.s-items)) ≡ instrument_all (numbers l.params) (sizes l.params) (pieces_in l.pieces) l.fn.first (stmts l.s-items);
}
