use Rattle.c_tree.proofs.Equations.{expr-Test, expr-Widen}
use Rattle.text_writer.proofs.Writes.{then_adds}
use Rattle.c_printer.proofs.expressions.+expressions.Goals as goal

pub put_expr-returns-in-Test : goal.put_expr-returns-in-Test
put_expr-returns-in-Test t c =
    rw (c.in-Test.is, expr-Test, ← c.deref-in-Test.ensures, ← c.deref-in-Test-2.ensures)
    (then_adds c.args.out.now c.put-in-Test.new.self c.put-in-Test-2.new.self _ _ c.put-in-Test.ensures (then_adds c.put-in-Test.new.self c.put_comparison.new.out c.put-in-Test-2.new.self _ _ c.put_comparison.ensures c.put-in-Test-2.ensures))

pub put_expr-returns-in-Widen : goal.put_expr-returns-in-Widen
put_expr-returns-in-Widen t c = let h = c.deref-in-Widen.ensures in rw (c.in-Widen.is, expr-Widen, ← h) c.put_cast-in-Widen.ensures
