use Rattle.std.proofs.Common.{◌≡◌, ◌*◌, ◌≤◌, drop, map, min}
use Rattle.c_tree.specs.Arrays.{cell_count}
use Rattle.data_file.specs.Checks as spec
use Rattle.data_file.proofs.check.cells_of_array.Given as goal

abbrev pub invariant-loop-extent : goal.invariant-loop-extent
invariant-loop-extent l = record {
  few : l.count ≤ 4194305;
  counted : min (l.count * cell_count (map (spec.sum_value l.ints) (drop l.extent-index l.extent-items))) 4194305 ≡ min (spec.cells_of_array l.ints l.array) 4194305;
}
