use Rattle.std.proofs.Common.{◌≡◌, drop}
use Rattle.c_tree.specs.Grammar.Units as grammar
use Rattle.c_tree.specs.Trees as t
use Rattle.c_parser.proofs.checks.+checks.Given as goal

abbrev pub invariant-all_checks_below-loop-stmt : goal.invariant-all_checks_below-loop-stmt
invariant-all_checks_below-loop-stmt l = grammar.all_checks_below l.arrays (t.stmts l.stmts) ≡ grammar.all_checks_below l.arrays (t.stmts (drop l.stmt-index l.stmts))
