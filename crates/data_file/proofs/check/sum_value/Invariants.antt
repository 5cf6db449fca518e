use Rattle.std.proofs.Common.{◌≡◌, ◌+◌, ◌*◌, ◌^◌, ◌≤◌, drop, fold, ◌+ℤ◌, ℤ, ℕ, unsigned_abs}
use Rattle.data_file.specs.Checks as spec
use Rattle.data_file.proofs.check.sum_value.Given as goal

abbrev pub invariant-loop-variable : goal.invariant-loop-variable
invariant-loop-variable l = record {
  summed : fold (λ (total : ℤ) (t : ℕ × ℤ). total +ℤ spec.term_value l.ints t) l.total (drop l.variable-index l.variable-items) ≡ spec.sum_value l.ints l.sum;
  small : unsigned_abs l.total ≤ 2 ^ 20 + l.variable-index * 2 ^ 60;
}
