use Rattle.std.proofs.Common.{[], ◌++◌, ◌*◌, ◌∙◌, ap, codes, pos, None}
use Rattle.data_file.specs.Texts.{array_line, parameter_line}
use Rattle.text_writer.proofs.Writes.{then_bytes}
use Rattle.demo_kernels.specs.Generator.{after, drawn}
use Rattle.demo_kernels.proofs.Lines.{last, moved}
use Rattle.demo_kernels.proofs.data.put_product.Goals as goal

pub returns : goal.returns
returns c =
    let count = c.args.n * c.args.n in
    let start = c.args.start in
    let n = parameter_line (codes "n") (pos c.args.n) in
    let a = array_line (codes "A") (drawn None count start) in
    let b = array_line (codes "B") (drawn None count (after count start)) in
    let d = array_line (codes "C") (drawn None count (after count (after count start))) in
    let whole = c.put_row.new.out in
    let second = moved (codes "B") None count _ _ c.put_row-a.new.out c.put_row-b.new.out c.put_row-a.ensures.last c.put_row-b.ensures.text in
    let third = moved (codes "C") None count _ _ c.put_row-b.new.out whole (c.put_row-b.ensures.last ∙ ap (after count) c.put_row-a.ensures.last) c.put_row.ensures.text in
    then_bytes c.args.out.now c.put_parameter.new.out whole (n ++ []) (a ++ (b ++ (d ++ []))) (last c.args.out.now c.put_parameter.new.out n c.put_parameter.ensures)
    (then_bytes c.put_parameter.new.out c.put_row-a.new.out whole a (b ++ (d ++ [])) c.put_row-a.ensures.text
    (then_bytes c.put_row-a.new.out c.put_row-b.new.out whole b (d ++ []) second (last c.put_row-b.new.out whole d third)))
