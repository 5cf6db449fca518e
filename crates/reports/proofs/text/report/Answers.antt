use Rattle.std.proofs.Common.{◌∙◌, ap}
use Rattle.c_tree.specs.Trees.{unit as tree}
use Rattle.reports.specs.Texts.{report_text}
use Rattle.text_writer.proofs.Writes.{written}
use Rattle.reports.proofs.text.report.Goals as goal

pub returns : goal.returns
returns c =
    ap (λ v. v.items) c.in_ok-finish.ensures.0
    ∙ written c.new-out.result c.put_params.new.out (report_text (tree c.args.unit.now)) c.new-out.ensures.0 c.put_params.ensures c.in_ok-finish.ensures.1
