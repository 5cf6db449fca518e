-- The row-major number of a cell, as a program computes it.
use Rattle.std.specs.Prelude.{ℕ, ◌+◌, ◌*◌, List, [], ◌∷◌, ℤ}
use Rattle.c_tree.specs.Arrays.{cell_count, size_of}

-- by the extents and the coordinates
abbrev pub row_major : List ℤ → List ℤ → ℕ
row_major [] cs = 0
row_major (e ∷ es) [] = 0
row_major (e ∷ es) (c ∷ cs) = size_of c * cell_count es + row_major es cs
