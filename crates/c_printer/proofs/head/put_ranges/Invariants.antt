use Rattle.std.proofs.Common.{drop, map}
use Rattle.c_tree.specs.Trees.{word}
use Rattle.c_printer.specs.Before.{ranges_before}
use Rattle.text_writer.specs.Written.{left_to_add}
use Rattle.c_printer.proofs.head.put_ranges.Given as goal

abbrev pub invariant-loop-range : goal.invariant-loop-range
invariant-loop-range l = left_to_add l.fn.out l.out (ranges_before (map (λ r. (word r.0, r.1, r.2)) l.range-items)) (ranges_before (map (λ r. (word r.0, r.1, r.2)) (drop l.range-index l.range-items)))
