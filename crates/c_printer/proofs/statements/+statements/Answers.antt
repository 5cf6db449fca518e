use Rattle.c_tree.proofs.Equations.{stmt-For, stmt-Begin}
use Rattle.c_tree.specs.Trees.{stmts}
use Rattle.c_printer.specs.Scopes.{scope_in}
use Rattle.text_writer.proofs.Writes.{then_adds, same_adds}
use Rattle.c_printer.proofs.Writes.{else_some, some_stmts}
use Rattle.c_printer.proofs.statements.+statements.Goals as goal

pub put_else-returns-else-is_empty : goal.put_else-returns-else-is_empty
put_else-returns-else-is_empty t c =
    same_adds c.args.out.now c.put_other.new.out _ _ c.put_other.ensures (else_some (scope_in c.args.scope.now) c.args.depth (stmts c.args.other.now) (some_stmts c.is_empty.result c.args.other.now c.is_empty.ensures c.if-is_empty.false))

pub put_stmt-returns-in-For : goal.put_stmt-returns-in-For
put_stmt-returns-in-For t c =
    rw (c.in-For.is, stmt-For)
    (then_adds c.args.out.now c.put_loop_start.new.out c.put.new.self _ _ c.put_loop_start.ensures
    (then_adds c.put_loop_start.new.out c.put_block.new.out c.put.new.self _ _ c.put_block.ensures c.put.ensures))

pub put_stmt-returns-in-Begin : goal.put_stmt-returns-in-Begin
put_stmt-returns-in-Begin t c = rw (c.in-Begin.is, stmt-Begin) c.put-in-Begin.ensures
