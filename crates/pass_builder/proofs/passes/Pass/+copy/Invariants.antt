use Rattle.std.proofs.Common.{◌≡◌, ◌+◌, ◌++◌, ◌≤◌, ◌<◌, ◌^◌, map, drop}
use Rattle.c_tree.specs.Trees.{stmt, stmts}
use Rattle.c_tree.specs.Grammar.Statements.{stmts_height}
use Rattle.c_tree.specs.Instances.{sites_all}
use Rattle.instrumentation.specs.Passes.{copied_all}
use Rattle.text_parts.specs.Around.{names_of}
use Rattle.pass_builder.specs.Counted.{target_of}
use Rattle.text_parts.specs.Numbered.{numbers}
use Rattle.text_parts.specs.Weight.{weight, weight_all}
use Rattle.pass_builder.proofs.passes.Pass.+copy.Given as goal

abbrev pub decreases-statement : goal.decreases-statement
decreases-statement l = weight (stmt l.s.now)

abbrev pub decreases-statements : goal.decreases-statements
decreases-statements l = weight_all (stmts l.body.now)

abbrev pub invariant-statements-loop-s : goal.invariant-statements-loop-s
invariant-statements-loop-s l = record {
  numbered : l.next + sites_all (stmts (drop l.s-index l.s-items)) < 2 ^ 64;
  lower : stmts_height (stmts (drop l.s-index l.s-items)) ≤ stmts_height (stmts l.s-items);
  smaller : weight_all (stmts (drop l.s-index l.s-items)) ≤ weight_all (stmts l.s-items);
  rest : map stmt l.made ++ copied_all (numbers l.self.params.now) (target_of l.self) l.self.site (names_of l.loops) l.next (stmts (drop l.s-index l.s-items)) ≡ copied_all (numbers l.self.params.now) (target_of l.self) l.self.site (names_of l.loops) l.fn.first (stmts l.s-items);
}
