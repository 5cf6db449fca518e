use Rattle.std.proofs.Common.{◌≡◌, ◌<◌, ℕ, false}
use Rattle.data_file.specs.Checks as spec
use Rattle.data_file.proofs.check.first_outside.Given as goal

abbrev pub invariant-loop-parameter : goal.invariant-loop-parameter
invariant-loop-parameter l = (j : ℕ) → j < l.parameter → spec.is_outside l.f l.i.ints j ≡ false
