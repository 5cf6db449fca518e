use Rattle.std.proofs.Common.{◌≡◌, ◌+◌, ◌-◌, ◌≤◌, length, drop}
use Rattle.c_lexer.specs.Reading as spec
use Rattle.c_lexer.proofs.over.all_len.Given as goal

abbrev pub invariant-pieces : goal.invariant-pieces
invariant-pieces l = record {
  next : l.piece ≡ spec.passed_len l.over (drop l.at l.text);
  so_far : spec.all_len l.over l.text ≡ l.at + spec.all_len l.over (drop l.at l.text);
  within : l.at + l.piece ≤ length l.text;
}

abbrev pub decreases-pieces : goal.decreases-pieces
decreases-pieces l = length l.text - l.at
