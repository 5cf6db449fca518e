use Rattle.std.proofs.Common.{◌∙◌, sym, flat_map}
use Rattle.data_file.specs.Texts.{cell_text}
use Rattle.demo_kernels.specs.Generator.{drawn}
use Rattle.demo_kernels.proofs.Lines.{all_put, cell_more, last_put, later_number}
use Rattle.demo_kernels.proofs.generator.put_cells.Goals as goal

pub loop-turn-preserved : goal.loop-turn-preserved
loop-turn-preserved c =
    let count = c.args.count in
    let turn = c.loop-turn._turn in
    let limit = c.args.limit in
    let last = c.loop-turn.last in
    let next = c.step-last.result in (
      cell_more limit count turn last next c.cell_of.result (flat_map cell_text (drawn limit count c.args.start)) c.args.out.now c.loop-turn.out c.put.new.self c.put_number.new.self
          c.loop-turn-test.true c.step-last.ensures c.cell_of.ensures c.loop-turn.invariant.0 c.put.ensures c.put_number.ensures,
      c.loop-turn.invariant.1 ∙ later_number count turn last next c.loop-turn-test.true c.step-last.ensures,
    )

pub returns-clause-text : goal.returns-clause-text
returns-clause-text c =
    all_put c.args.limit c.args.count c.loop-turn._turn c.loop-turn.last (flat_map cell_text (drawn c.args.limit c.args.count c.args.start)) c.args.out.now c.loop-turn.out
    c.loop-turn-test.false c.loop-turn.invariant.0

pub returns-clause-last : goal.returns-clause-last
returns-clause-last c = sym (c.loop-turn.invariant.1 ∙ last_put c.args.count c.loop-turn._turn c.loop-turn.last c.loop-turn-test.false)
