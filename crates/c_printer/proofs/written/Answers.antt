use Rattle.std.proofs.Common.{◌∙◌, ap}
use Rattle.text_writer.proofs.Writes.{then_adds, finished}
use Rattle.c_printer.proofs.written.Goals as goal

pub returns : goal.returns
returns c =
    let last = c.put_body.new.out in
    ap (λ v. v.items) c.in_ok-finish.ensures.0
    ∙ finished c.new-out.result last _ c.new-out.ensures.0
    (then_adds c.new-out.result c.put_version.new.out last _ _ c.put_version.ensures
    (then_adds c.put_version.new.out c.put_head.new.out last _ _ c.put_head.ensures c.put_body.ensures))
    c.in_ok-finish.ensures.1
