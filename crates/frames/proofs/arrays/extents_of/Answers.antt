use Rattle.c_tree.specs.Names.{words}
use Rattle.frames.proofs.Loops.{all_sums}
use Rattle.frames.proofs.arrays.extents_of.Goals as goal

pub returns : goal.returns
returns c = all_sums (words c.args.names.now) c.as_slice-e-items.result.now c.args.extents.now c.loop-e.e-index c.loop-e.sums c.loop-e-test.false c.as_slice-e-items.ensures c.loop-e.invariant.whole
