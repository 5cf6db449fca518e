use Rattle.std.proofs.Common.{[], ◌++◌, codes, pos, None}
use Rattle.data_file.specs.Texts.{array_line, parameter_line}
use Rattle.text_writer.proofs.Writes.{then_bytes}
use Rattle.demo_kernels.specs.Generator.{drawn}
use Rattle.demo_kernels.proofs.Lines.{last}
use Rattle.demo_kernels.proofs.data.put_shift.Goals as goal

pub returns : goal.returns
returns c =
    let n = parameter_line (codes "n") (pos c.args.n) in
    let a = array_line (codes "A") (drawn None c.args.n c.args.start) in
    then_bytes c.args.out.now c.put_parameter.new.out c.put_row.new.out (n ++ []) (a ++ []) (last c.args.out.now c.put_parameter.new.out n c.put_parameter.ensures) (last c.put_parameter.new.out c.put_row.new.out a c.put_row.ensures.text)
