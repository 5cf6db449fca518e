use Rattle.std.proofs.Common.{◌≡◌, drop}
use Rattle.std.specs.List.{list_any}
use Rattle.c_tree.specs.Reserved.{is_reserved}
use Rattle.scopes.specs.Names.{words_in}
use Rattle.unit_checks.proofs.reserved_names.word_reserved.Given as goal

abbrev pub invariant-loop-name : goal.invariant-loop-name
invariant-loop-name l = list_any (λ w. is_reserved w.0) (words_in l.words) ≡ list_any (λ w. is_reserved w.0) (words_in (drop l.name-index l.words))
