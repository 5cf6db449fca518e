use Rattle.std.proofs.Common.{◌≡◌, ◌<◌, ℕ, false}
use Rattle.data_file.specs.Checks as spec
use Rattle.data_file.proofs.check.first_mismatch.Given as goal

abbrev pub invariant-loop-array : goal.invariant-loop-array
invariant-loop-array l = (j : ℕ) → j < l.array → spec.has_wrong_cells l.f l.i j ≡ false
