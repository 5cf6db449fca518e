use Rattle.std.proofs.Common.{◌∙◌, ap}
use Rattle.command_line.specs.DataRefusals.{data_refusal_text as text_of}
use Rattle.text_writer.proofs.Writes.{written}
use Rattle.command_line.proofs.data_refusals.data_refusal_text.Goals as goal

pub returns : goal.returns
returns c =
    c.new.ensures ∙ ap (λ v. v.items) c.in_ok-finish.ensures.0
    ∙ written c.new-out.result c.put_refusal.new.out (text_of c.args.frame.now c.args.refusal) c.new-out.ensures.0 c.put_refusal.ensures c.in_ok-finish.ensures.1
