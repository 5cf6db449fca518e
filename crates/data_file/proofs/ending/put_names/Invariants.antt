use Rattle.std.proofs.Common.{◌≡◌, ◌++◌, drop}
use Rattle.data_file.specs.Texts.{names_among}
use Rattle.data_file.proofs.ending.put_names.Given as goal

abbrev pub invariant-loop-k : goal.invariant-loop-k
invariant-loop-k l = l.out.items ++ names_among l.numbers l.k (drop l.k l.arrays) ≡ l.fn.out.items ++ names_among l.numbers 0 l.arrays
