use Rattle.c_tree.specs.Names.{words}
use Rattle.frames.proofs.Loops.{all_arrays}
use Rattle.frames.proofs.arrays.arrays_of.Goals as goal

pub returns : goal.returns
returns c = all_arrays (words c.args.names.now) c.args.params.now c.loop-p.p-index c.loop-p.arrays c.loop-p-test.false c.loop-p.invariant.whole
