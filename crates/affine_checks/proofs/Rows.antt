-- A test of two lists in a row.
use Rattle.std.proofs.lemmas.List.Folds.{list_all-append, list_any-append}

pub ruleset appended = (list_all-append, list_any-append)
