use Rattle.std.proofs.Common.{◌≡◌, drop}
use Rattle.interp.specs.Subscripts.{row_major}
use Rattle.interp.specs.Values.{values_in}
use Rattle.interp.proofs.subscripts.number_by_list.Given as goal

abbrev pub invariant-loop-e : goal.invariant-loop-e
invariant-loop-e l = row_major l.rows l.extents (drop l.e-index l.at) (values_in l.values) ≡ row_major l.fn.rows l.fn.extents l.at (values_in l.values)
