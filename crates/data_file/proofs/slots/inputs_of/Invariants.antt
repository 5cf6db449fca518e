use Rattle.std.proofs.Common.{◌≡◌, [], reverse, vec_len}
use Rattle.data_file.specs.Reading as spec
use Rattle.data_file.proofs.slots.inputs_of.Given as goal

abbrev pub invariant-loop-slot : goal.invariant-loop-slot
invariant-loop-slot l = spec.inputs_from l.ints l.cells (reverse l.slots.items) ≡ spec.inputs_from [] [] l.fn.slots.items

abbrev pub decreases-loop-slot : goal.decreases-loop-slot
decreases-loop-slot l = vec_len l.slots
