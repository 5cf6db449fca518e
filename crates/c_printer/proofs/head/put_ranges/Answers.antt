use Rattle.std.proofs.Common.{map, refl}
use Rattle.c_tree.specs.Trees.{word}
use Rattle.c_printer.specs.Before.{range_before, ranges_before}
use Rattle.text_writer.proofs.Writes.{line_more}
use Rattle.c_printer.proofs.head.put_ranges.Goals as goal

pub loop-range-preserved : goal.loop-range-preserved
loop-range-preserved c =
    line_more (λ r. range_before (word r.0, r.1, r.2)) (λ rs. ranges_before (map (λ r. (word r.0, r.1, r.2)) rs)) _
    c.as_slice-range-items.result.now c.loop-range.range-index c.range-item.result c.args.out.now c.loop-range.out c.put_range.new.out
    (λ r rs rest. refl) c.loop-range-test.true c.range-item.is c.loop-range.invariant c.put_range.ensures
