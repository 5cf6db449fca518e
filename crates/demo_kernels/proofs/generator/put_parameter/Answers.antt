use Rattle.std.proofs.Common.{[], ◌∷◌, ◌++◌, codes, decimal}
use Rattle.text_writer.proofs.Writes.{then_bytes}
use Rattle.demo_kernels.proofs.Lines.{spelled}
use Rattle.demo_kernels.proofs.generator.put_parameter.Goals as goal

pub returns : goal.returns
returns c =
    let whole = c.put-3.new.self in
    then_bytes c.args.out.now c.put.new.self whole c.args.name.now (codes " = " ++ (decimal c.args.value ++ 10 ∷ [])) (spelled c.args.out.now c.put.new.self c.as_bytes.result.now c.args.name.now c.as_bytes.ensures.value c.put.ensures)
    (then_bytes c.put.new.self c.put-2.new.self whole (codes " = ") (decimal c.args.value ++ 10 ∷ []) c.put-2.ensures
    (then_bytes c.put-2.new.self c.put_number.new.self whole (decimal c.args.value) (10 ∷ []) c.put_number.ensures c.put-3.ensures))
