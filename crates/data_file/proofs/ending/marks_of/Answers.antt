use Rattle.std.proofs.Common.{◌+◌, take, sym, subst, List, Bool, get_or, refl}
use Rattle.data_file.specs.Texts.{AreMarks}
use Rattle.data_file.proofs.Marks.{marked}
use Rattle.data_file.proofs.ending.marks_of.Goals as goal

pub loop-number-preserved : goal.loop-number-preserved
loop-number-preserved c =
    subst (λ (marks : List Bool). AreMarks (take (c.loop-number.number-index + 1) c.args.numbers.now) c.args.count marks) (sym c.mark.ensures)
    (marked c.args.numbers.now c.args.count c.loop-number.number-index (get_or c.args.numbers.now c.loop-number.number-index 0) c.loop-number.marks.items c.loop-number.invariant c.loop-number-test.true refl)
