use Rattle.std.proofs.Common.{drop}
use Rattle.c_tree.specs.Trees.{stmts}
use Rattle.c_printer.specs.Before.{stmts_before}
use Rattle.c_printer.specs.Scopes.{scope_in}
use Rattle.text_writer.specs.Written.{left_to_add}
use Rattle.c_printer.proofs.statements.+statements.Given as goal

abbrev pub invariant-put_stmts-loop-s : goal.invariant-put_stmts-loop-s
invariant-put_stmts-loop-s l = left_to_add l.fn.out l.out (stmts_before (scope_in l.scope) l.depth (stmts l.s-items)) (stmts_before (scope_in l.scope) l.depth (stmts (drop l.s-index l.s-items)))
