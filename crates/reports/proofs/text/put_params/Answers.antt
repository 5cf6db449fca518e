use Rattle.std.proofs.Common.{ap}
use Rattle.c_tree.specs.Trees.{param, unit as tree}
use Rattle.text_writer.specs.Written.{fixed}
use Rattle.text_writer.proofs.Writes.{line_more, same_adds}
use Rattle.reports.specs.Texts.{param_text}
use Rattle.reports.proofs.Lines.{lines_of, lines_more, none_left}
use Rattle.reports.proofs.text.put_params.Goals as goal

pub loop-p-preserved : goal.loop-p-preserved
loop-p-preserved c =
    let u = tree c.args.unit.now in
    let ps = c.as_slice-p-items.result.now in
    line_more (λ p. fixed (param_text u (param p))) (λ ps. fixed (lines_of u ps)) (fixed (lines_of u ps))
    ps c.loop-p.p-index c.p-item.result c.args.out.now c.loop-p.out c.put_param.new.out
    (lines_more u) c.loop-p-test.true c.p-item.is c.loop-p.invariant c.put_param.ensures

pub returns : goal.returns
returns c =
    let u = tree c.args.unit.now in
    let ps = c.as_slice-p-items.result.now in
    same_adds c.args.out.now c.loop-p.out (fixed (lines_of u ps)) _
    (none_left u ps c.loop-p.p-index c.args.out.now c.loop-p.out c.loop-p-test.false c.loop-p.invariant)
    (λ rest. ap (λ ps. fixed (lines_of u ps) rest) c.as_slice-p-items.ensures)
