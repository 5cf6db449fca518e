use Rattle.std.proofs.Common.{◌≡◌, replicate, None}
use Rattle.data_file.proofs.slots.no_rows.Given as goal

abbrev pub invariant-loop-slot : goal.invariant-loop-slot
invariant-loop-slot l = l.slots.items ≡ replicate l._slot None
