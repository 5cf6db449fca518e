use Rattle.std.proofs.Common.{◌+◌, ◌∙◌}
use Rattle.edge.proofs.Known.{appended_more, rest_more, within_more}
use Rattle.edge.proofs.sink.write_all.Goals as goal

pub loop-rest-preserved : goal.loop-rest-preserved
loop-rest-preserved g c =
    let inv = c.loop-rest.invariant in
    let wrote = c.in_ok-taken.ensures in (
      inv.0 + c.in_ok-taken.taken,
      within_more _ _ _ _ inv.2 inv.1 wrote.taken.within,
      rest_more _ _ _ _ inv.2,
      appended_more _ _ _ _ _ _ _ inv.2 inv.3 wrote.bytes,
      wrote.cause.kept ∙ inv.4,
    )
