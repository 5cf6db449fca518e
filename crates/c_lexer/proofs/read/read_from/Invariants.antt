use Rattle.std.proofs.Common.{◌≡◌, ◌-◌, ◌≤◌, length, drop}
use Rattle.c_lexer.specs.declared.line.Line.TheVariants.{Fresh}
use Rattle.c_lexer.specs.Reading.{behind_tokens, tokens_from}
use Rattle.c_lexer.proofs.read.read_from.Given as goal

abbrev pub invariant-text : goal.invariant-text
invariant-text l = record {
  so_far : behind_tokens l.fn.found (tokens_from l.printed Fresh 0 l.start (drop l.start l.text)) ≡ behind_tokens l.tokens (tokens_from l.printed l.line 0 l.at (drop l.at l.text));
  within : l.at ≤ length l.text;
}

abbrev pub decreases-text : goal.decreases-text
decreases-text l = length l.text - l.at
