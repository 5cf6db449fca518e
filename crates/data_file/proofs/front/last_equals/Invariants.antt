use Rattle.std.proofs.Common.{◌≡◌, drop, None}
use Rattle.data_file.specs.Reading as spec
use Rattle.data_file.proofs.front.last_equals.Given as goal

abbrev pub invariant-loop-k : goal.invariant-loop-k
invariant-loop-k l = spec.last_equals l.k l.last (drop l.k l.line) ≡ spec.last_equals 0 None l.line
