-- Tables by their slots.
use Rattle.std.specs.Prelude.{ℕ, List, [], slice_index_or, slice_set}

-- a table that isn't there has no entries
abbrev pub table_at : List (List ℕ) → ℕ → List ℕ
table_at ts k = slice_index_or ts k []

abbrev pub with_entry_of : ℕ → ℕ → ℕ → List (List ℕ) → List (List ℕ)
with_entry_of k i n ts = slice_set ts k (slice_set (table_at ts k) i n)
