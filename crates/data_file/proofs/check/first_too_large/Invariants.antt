use Rattle.std.proofs.Common.{◌≡◌, ◌<◌, ℕ, false}
use Rattle.data_file.specs.Checks as spec
use Rattle.data_file.proofs.check.first_too_large.Given as goal

abbrev pub invariant-loop-array : goal.invariant-loop-array
invariant-loop-array l = (j : ℕ) → j < l.array → spec.is_too_large l.f l.i.ints j ≡ false
