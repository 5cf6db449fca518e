use Rattle.std.proofs.Common.{◌≡◌, ◌≤◌, false, length, drop}
use Rattle.unit_checks.specs.Repeats.{names_at, repeats}
use Rattle.unit_checks.proofs.name_lists.distinct.Given as goal

abbrev pub invariant-last_first : goal.invariant-last_first
invariant-last_first l = record {
  within : l.at ≤ length l.names;
  seen : l.seen ≡ names_at (drop l.at l.names);
  none : repeats (names_at (drop l.at l.names)) ≡ false;
}

abbrev pub decreases-last_first : goal.decreases-last_first
decreases-last_first l = l.at
