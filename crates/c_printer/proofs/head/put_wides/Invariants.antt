use Rattle.std.proofs.Common.{drop}
use Rattle.c_tree.specs.Names.{words}
use Rattle.c_printer.specs.Before.{wides_before}
use Rattle.text_writer.specs.Written.{left_to_add}
use Rattle.c_printer.proofs.head.put_wides.Given as goal

abbrev pub invariant-loop-name : goal.invariant-loop-name
invariant-loop-name l = left_to_add l.fn.out l.out (wides_before (words l.name-items)) (wides_before (words (drop l.name-index l.name-items)))
