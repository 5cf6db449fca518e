use Rattle.std.proofs.Common.{sym}
use Rattle.interp.specs.Values.{values_in}
use Rattle.interp.proofs.SignedSubscripts.{row_major_past}
use Rattle.interp.proofs.subscripts.with_end_in_line.Goals as goal

pub returns-in-len1-up : goal.returns-in-len1-up
returns-in-len1-up c =
    sym (row_major_past c.args.rows c.args.extents.now c.args.at.now (values_in c.args.values.now) c.in-empty.len_below c.in-len1-up.len_at_least)
