use Rattle.std.proofs.Common.{◌≡◌, ◌++◌, drop}
use Rattle.data_file.specs.Texts.{paired, array_text}
use Rattle.data_file.proofs.write.put_arrays.Given as goal

abbrev pub invariant-loop-k : goal.invariant-loop-k
invariant-loop-k l = l.out.items ++ paired array_text (drop l.k l.arrays) (drop l.k l.cells) ≡ l.fn.out.items ++ paired array_text l.arrays l.cells
