use Rattle.std.proofs.Common.{◌++◌, take, arith}
use Rattle.std.proofs.lemmas.Grind.{common_steps}
use Rattle.edge.proofs.Known.{consumes_more, read_length}
use Rattle.edge.proofs.file_shelf.read_within.Goals as goal

pub returns-then-count-room-clause-reads : goal.returns-then-count-room-clause-reads
returns-then-count-room-clause-reads g c =
    (c.loop-count.bytes.items ++ take c.in-Ok.count c.read.new.buf, read_length _ _ _ _ (grind (arith, common_steps, c.in-Ok.ensures.bound, c.read.auto.buf, c.min-wanted.ensures, c.saturating_add.ensures)), consumes_more _ _ _ _ _ c.loop-count.invariant.1 c.in-Ok.ensures.bytes.0)

pub returns-then-is_err-clause-reads : goal.returns-then-is_err-clause-reads
returns-then-is_err-clause-reads g c =
    (c.loop-count.bytes.items ++ take c.in-Ok.count c.read.new.buf, read_length _ _ _ _ (omega arith), consumes_more _ _ _ _ _ c.loop-count.invariant.1 c.in-Ok.ensures.bytes.0)
