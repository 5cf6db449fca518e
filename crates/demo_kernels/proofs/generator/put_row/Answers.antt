use Rattle.std.proofs.Common.{[], ◌∷◌, ◌++◌, codes, flat_map}
use Rattle.data_file.specs.Texts.{cell_text}
use Rattle.demo_kernels.specs.Generator.{drawn}
use Rattle.text_writer.proofs.Writes.{then_bytes}
use Rattle.demo_kernels.proofs.Lines.{spelled}
use Rattle.demo_kernels.proofs.generator.put_row.Goals as goal

pub returns-clause-text : goal.returns-clause-text
returns-clause-text c =
    let cells = flat_map cell_text (drawn c.args.limit c.args.count c.args.start) in
    let whole = c.put-3.new.self in
    then_bytes c.args.out.now c.put.new.self whole c.args.name.now (codes " =" ++ (cells ++ 10 ∷ [])) (spelled c.args.out.now c.put.new.self c.as_bytes.result.now c.args.name.now c.as_bytes.ensures.value c.put.ensures)
    (then_bytes c.put.new.self c.put-2.new.self whole (codes " =") (cells ++ 10 ∷ []) c.put-2.ensures
    (then_bytes c.put-2.new.self c.put_cells-last.new.out whole cells (10 ∷ []) c.put_cells-last.ensures.text c.put-3.ensures))
