use Rattle.std.proofs.Common.{◌≡◌, ◌++◌, drop}
use Rattle.data_file.specs.Texts.{paired, parameter_text}
use Rattle.data_file.proofs.write.put_parameters.Given as goal

abbrev pub invariant-loop-k : goal.invariant-loop-k
invariant-loop-k l = l.out.items ++ paired parameter_text (drop l.k l.parameters) (drop l.k l.values) ≡ l.fn.out.items ++ paired parameter_text l.parameters l.values
