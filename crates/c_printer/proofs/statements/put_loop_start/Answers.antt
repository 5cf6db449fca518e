use Rattle.text_writer.proofs.Writes.{then_adds}
use Rattle.c_printer.proofs.statements.put_loop_start.Goals as goal

pub returns : goal.returns
returns c =
    let last = c.put_name-3.new.out in
    rw (← c.rel_mark.ensures)
    (then_adds c.args.out.now c.put_indent.new.out last _ _ c.put_indent.ensures
    (then_adds c.put_indent.new.out c.put_name.new.out last _ _ c.put_name.ensures
    (then_adds c.put_name.new.out c.put_expr.new.out last _ _ c.put_expr.ensures
    (then_adds c.put_expr.new.out c.put_name-2.new.out last _ _ c.put_name-2.ensures
    (then_adds c.put_name-2.new.out c.put.new.self last _ _ c.put.ensures
    (then_adds c.put.new.self c.put-2.new.self last _ _ c.put-2.ensures
    (then_adds c.put-2.new.self c.put_expr-2.new.out last _ _ c.put_expr-2.ensures c.put_name-3.ensures)))))))
