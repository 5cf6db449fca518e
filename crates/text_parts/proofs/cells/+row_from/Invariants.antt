use Rattle.std.proofs.Common.{◌-◌, length}
use Rattle.text_parts.proofs.cells.+row_from.Given as goal

abbrev pub decreases-row_from : goal.decreases-row_from
decreases-row_from l = length l.extents.now - l.dimension
