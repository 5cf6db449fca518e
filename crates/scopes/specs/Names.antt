-- The declared words and range lines of a head as plain ones.
use Rattle.std.specs.Prelude.{◌≡◌, ℕ, ℤ, List, map, bytes_eq}
use Rattle.std.specs.Borrow.{Bor}
use Rattle.std.specs.List.{list_any}
use Rattle.c_tree.specs.Names.{is_among}
use Rattle.c_tree.specs.Plain.{Word}
use Rattle.c_tree.specs.Trees.{word}
use Rattle.c_tree.specs.declared.name.Name.{Name}
use Rattle.acceptance.specs.Affine.{Intervals}
use Rattle.scopes.specs.Intervals.{reversed}

abbrev pub words_in : List (Name × ℕ) → List (Word × ℕ)
words_in = map (λ (w : Name × ℕ). (word w.0, w.1))

abbrev pub lines_in : List (Name × ℤ × ℤ) → Intervals
lines_in rs = map (λ (r : Word × ℤ × ℤ). (r.0, (r.1, r.2))) (map (λ (r : Name × ℤ × ℤ). (word r.0, r.1, r.2)) rs)

-- the keys of a set are the names of a list
abbrev pub HasSameNames : List (Bor Word) → List (Bor Name) → Type 0
HasSameNames keys names = (x : Word) → list_any (λ (k : Bor Word). bytes_eq x k.now) keys ≡ is_among (reversed names) x
