use Rattle.std.proofs.Common.{◌∙◌, ap}
use Rattle.text_writer.proofs.Writes.{written}
use Rattle.demo_kernels.specs.Kernels.{kernel_data, kernel_of}
use Rattle.demo_kernels.proofs.data.data_of.Goals as goal

pub returns : goal.returns
returns c =
    let number = c.args.number in
    c.new.ensures
    ∙ ap (λ b. b.items) c.in_ok-finish.ensures.0
    ∙ written c.new-out.result c.put_data.new.out (kernel_data (kernel_of number) number) c.new-out.ensures.0 c.put_data.ensures c.in_ok-finish.ensures.1
