use Rattle.std.proofs.Common.{◌≡◌, ◌+◌, length, take}
use Rattle.data_file.specs.Conditions.{names_in}
use Rattle.data_file.specs.Seen.{listed}
use Rattle.data_file.proofs.names.names_of.Given as goal

abbrev pub invariant-loop-name : goal.invariant-loop-name
invariant-loop-name l = listed l.names.keys ≡ take l.name-index (names_in l.f)

abbrev pub invariant-loop-array : goal.invariant-loop-array
invariant-loop-array l = listed l.names.keys ≡ take (length l.f.ints + l.array-index) (names_in l.f)
