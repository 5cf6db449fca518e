use Rattle.std.proofs.Common.{◌≡◌, ◌-◌, arith, sym, ◌∙◌}
use Rattle.std.proofs.lemmas.Grind.{common_steps}
use Rattle.std.proofs.lemmas.List.{append-nil}
use Rattle.table_builder.specs.Words.{plain_words}
use Rattle.unit_builder.proofs.RegisterWords.{register_words-more}
use Rattle.unit_builder.proofs.guarded.add_registers.Goals as goal

pub loop-load-preserved : goal.loop-load-preserved
loop-load-preserved c = grind (arith, common_steps, register_words-more c.loop-load.load c.args.registers)

pub returns : goal.returns
returns c =
    let none_left : c.args.registers - c.loop-load.load ≡ 0 = omega arith in
    sym (append-nil (plain_words c.loop-load.words)) ∙ rw none_left at c.loop-load.invariant
