use Rattle.kernel_check.proofs.Numbered.{all_summed}
use Rattle.kernel_check.proofs.count.+count.Goals as goal

pub count_all-returns : goal.count_all-returns
count_all-returns t c = all_summed c.as_slice-s-items.result.now c.args.body.now c.loop-s.s-index c.loop-s.sum c.as_slice-s-items.ensures c.loop-s-test.false c.loop-s.invariant.0 c.loop-s.invariant.1
