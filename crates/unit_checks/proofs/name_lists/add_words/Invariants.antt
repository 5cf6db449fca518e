use Rattle.std.proofs.Common.{◌≡◌, ◌++◌, drop}
use Rattle.scopes.specs.Names.{words_in}
use Rattle.unit_checks.specs.Repeats.{names_at, names_of_words}
use Rattle.unit_checks.proofs.name_lists.add_words.Given as goal

abbrev pub invariant-loop-name : goal.invariant-loop-name
invariant-loop-name l = names_at l.names ++ names_of_words (words_in (drop l.name-index l.words)) ≡ names_at l.fn.names ++ names_of_words (words_in l.words)
