use Rattle.std.proofs.Common.{◌≡◌, ◌+◌, length, option_map}
use Rattle.c_lexer.specs.Reading as spec
use Rattle.c_lexer.proofs.comment.close_len.Given as goal

abbrev pub invariant-close : goal.invariant-close
invariant-close l = record {
  found : spec.close_len l.text ≡ option_map (λ n. l.at + n) (spec.close_len l.rest);
  place : l.at + length l.rest ≡ length l.text;
}

abbrev pub decreases-close : goal.decreases-close
decreases-close l = length l.rest
