use Rattle.std.proofs.Common.{◌+◌, drop}
use Rattle.c_printer.specs.Before.{verdict_before, more_pairs_before}
use Rattle.c_tree.specs.Names.{words}
use Rattle.text_writer.specs.Written.{left_to_add}
use Rattle.c_printer.proofs.statements.put_verdict.Given as goal

abbrev pub invariant-loop-index : goal.invariant-loop-index
invariant-loop-index l = left_to_add l.fn.out l.out (verdict_before (words l.arrays)) (more_pairs_before (l.index + 1) (words (drop l.index l.rest)))
