use Rattle.std.proofs.Common.{take}
use Rattle.data_file.specs.Texts.{AreMarks}
use Rattle.data_file.proofs.ending.marks_of.Given as goal

abbrev pub invariant-loop-number : goal.invariant-loop-number
invariant-loop-number l = AreMarks (take l.number-index l.numbers) l.count l.marks.items
