-- The log of a run, as the laws of lists of accesses see it: the accesses in order, and a word for each position.
use Rattle.std.specs.Prelude.{ℕ, List, map, slice_index}
use Rattle.c_tree.specs.Accesses.{Access}
use Rattle.c_tree.specs.Run.{Event}

abbrev pub accesses_in : List Event → List Access
accesses_in events = map (λ (e : Event). e.access) events

-- the word that the access at a position read or wrote, 0 past the end
abbrev pub values_in : List Event → ℕ → ℕ
values_in events q = slice_index (map (λ (e : Event). e.value) events) q
