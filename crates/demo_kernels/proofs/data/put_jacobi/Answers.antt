use Rattle.std.proofs.Common.{[], ◌++◌, codes, pos, None}
use Rattle.data_file.specs.Texts.{array_line, parameter_line}
use Rattle.text_writer.proofs.Writes.{then_bytes}
use Rattle.demo_kernels.specs.Generator.{after, drawn}
use Rattle.demo_kernels.proofs.Lines.{last, moved}
use Rattle.demo_kernels.proofs.data.put_jacobi.Goals as goal

pub returns : goal.returns
returns c =
    let count = c.args.n in
    let start = c.args.start in
    let t = parameter_line (codes "t") (pos count) in
    let n = parameter_line (codes "n") (pos count) in
    let a = array_line (codes "A") (drawn None count start) in
    let b = array_line (codes "B") (drawn None count (after count start)) in
    let head = c.put_parameter-2.new.out in
    let whole = c.put_row.new.out in
    let second = moved (codes "B") None count _ _ c.put_row-a.new.out whole c.put_row-a.ensures.last c.put_row.ensures.text in
    then_bytes c.args.out.now head whole (t ++ (n ++ [])) (a ++ (b ++ []))
    (then_bytes c.args.out.now c.put_parameter.new.out head t (n ++ []) c.put_parameter.ensures (last c.put_parameter.new.out head n c.put_parameter-2.ensures))
    (then_bytes head c.put_row-a.new.out whole a (b ++ []) c.put_row-a.ensures.text (last c.put_row-a.new.out whole b second))
