-- Declared words, as they stand in a plain unit.
use Rattle.std.specs.Prelude.{ℕ, List, map}
use Rattle.c_tree.specs.Plain.{Word}
use Rattle.c_tree.specs.Trees.{word}
use Rattle.c_tree.specs.declared.name.Name.{Name}

abbrev pub plain_words : List (Name × ℕ) → List (Word × ℕ)
plain_words = map (λ w. (word w.0, w.1))
