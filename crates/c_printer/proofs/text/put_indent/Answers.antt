use Rattle.text_writer.proofs.Writes.{then_adds, same_adds}
use Rattle.c_printer.proofs.Writes.{indent_more}
use Rattle.c_printer.proofs.text.put_indent.Goals as goal

pub loop-level-preserved : goal.loop-level-preserved
loop-level-preserved c = same_adds c.args.out.now c.put.new.self _ _ (then_adds c.args.out.now c.loop-level.out c.put.new.self _ _ c.loop-level.invariant c.put.ensures) (indent_more c.loop-level._level)
