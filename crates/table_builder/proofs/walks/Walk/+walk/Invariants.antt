use Rattle.std.proofs.Common.{◌≡◌, ◌++◌, ◌≤◌, map, drop}
use Rattle.c_tree.specs.Trees.{stmt, stmts}
use Rattle.c_tree.specs.Grammar.Statements.{stmts_height}
use Rattle.instrumentation.specs.Tables.{walk_all}
use Rattle.text_parts.specs.Around.{names_of}
use Rattle.table_builder.specs.Walks.{reads_of, writes_of}
use Rattle.text_parts.specs.Weight.{weight, weight_all}
use Rattle.table_builder.proofs.walks.Walk.+walk.Given as goal

abbrev pub decreases-statement : goal.decreases-statement
decreases-statement l = weight (stmt l.s.now)

abbrev pub decreases-statements : goal.decreases-statements
decreases-statements l = weight_all (stmts l.body.now)

abbrev pub invariant-statements-loop-s : goal.invariant-statements-loop-s
invariant-statements-loop-s l = record {
  lower : stmts_height (stmts (drop l.s-index l.s-items)) ≤ stmts_height (stmts l.s-items);
  smaller : weight_all (stmts (drop l.s-index l.s-items)) ≤ weight_all (stmts l.s-items);
  rest : map stmt l.made ++ walk_all (reads_of l.self) (writes_of l.self) (names_of l.loops) (stmts (drop l.s-index l.s-items)) ≡ walk_all (reads_of l.self) (writes_of l.self) (names_of l.loops) (stmts l.s-items);
}
