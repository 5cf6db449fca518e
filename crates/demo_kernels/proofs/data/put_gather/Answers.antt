use Rattle.std.proofs.Common.{[], ◌++◌, ◌∙◌, ap, codes, pos, None, Some}
use Rattle.data_file.specs.Texts.{array_line, parameter_line}
use Rattle.text_writer.proofs.Writes.{then_bytes}
use Rattle.demo_kernels.specs.Generator.{after, drawn}
use Rattle.demo_kernels.proofs.Lines.{last, moved}
use Rattle.demo_kernels.proofs.data.put_gather.Goals as goal

pub returns : goal.returns
returns c =
    let count = c.args.n in
    let start = c.args.start in
    let n = parameter_line (codes "n") (pos count) in
    let m = parameter_line (codes "m") (pos count) in
    let p = array_line (codes "P") (drawn (Some count) count start) in
    let x = array_line (codes "X") (drawn None count (after count start)) in
    let y = array_line (codes "Y") (drawn None count (after count (after count start))) in
    let head = c.put_parameter-2.new.out in
    let whole = c.put_row.new.out in
    let second = moved (codes "X") None count _ _ c.put_row-p.new.out c.put_row-x.new.out c.put_row-p.ensures.last c.put_row-x.ensures.text in
    let third = moved (codes "Y") None count _ _ c.put_row-x.new.out whole (c.put_row-x.ensures.last ∙ ap (after count) c.put_row-p.ensures.last) c.put_row.ensures.text in
    then_bytes c.args.out.now head whole (n ++ (m ++ [])) (p ++ (x ++ (y ++ [])))
    (then_bytes c.args.out.now c.put_parameter.new.out head n (m ++ []) c.put_parameter.ensures (last c.put_parameter.new.out head m c.put_parameter-2.ensures))
    (then_bytes head c.put_row-p.new.out whole p (x ++ (y ++ [])) c.put_row-p.ensures.text
    (then_bytes c.put_row-p.new.out c.put_row-x.new.out whole x (y ++ []) second (last c.put_row-x.new.out whole y third)))
