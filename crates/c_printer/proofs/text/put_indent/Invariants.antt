use Rattle.c_tree.specs.Layout.{indent}
use Rattle.text_writer.specs.Written.{Adds, fixed}
use Rattle.c_printer.proofs.text.put_indent.Given as goal

abbrev pub invariant-loop-level : goal.invariant-loop-level
invariant-loop-level l = Adds l.fn.out l.out (fixed (indent l._level))
