use Rattle.std.proofs.Common.{◌≡◌, ◌++◌, drop}
use Rattle.data_file.specs.Texts.{paired, kept_text}
use Rattle.data_file.proofs.ending.put_kept.Given as goal

abbrev pub invariant-loop-k : goal.invariant-loop-k
invariant-loop-k l = l.out.items ++ paired kept_text (drop l.k l.arrays) (drop l.k l.cells) ≡ l.fn.out.items ++ paired kept_text l.arrays l.cells
