-- The plain trees of the parts of a unit.
use Rattle.std.specs.Prelude.{ℕ, ℤ, List, map}
use Rattle.c_tree.specs.Plain.{Word}
use Rattle.c_tree.specs.Trees.{word}
use Rattle.c_tree.specs.declared.name.Name.{Name}

abbrev pub range : Name × ℤ × ℤ → Word × ℤ × ℤ
range r = (word r.0, r.1, r.2)

abbrev pub ranges : List (Name × ℤ × ℤ) → List (Word × ℤ × ℤ)
ranges = map range

abbrev pub declaration : Name × ℕ → Word × ℕ
declaration w = (word w.0, w.1)

abbrev pub declarations : List (Name × ℕ) → List (Word × ℕ)
declarations = map declaration
