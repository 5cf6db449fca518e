-- The generator: numbers modulo 2^64, each of the one before, and rows of cells that are drawn from them.
use Rattle.std.specs.Prelude.{ℕ, zero, suc, ◌+◌, ◌*◌, ◌%◌, ◌^◌, ◌<◌, List, [], ◌∷◌, Option, Some, None}

-- the next number
abbrev pub step : ℕ → ℕ
step x = (x * 6364136223846793005 + 1442695040888963407) % 2 ^ 64

-- the number after so many steps
unfoldable pub after : ℕ → ℕ → ℕ
after zero x = x
after (suc k) x = after k (step x)

-- the cell of a number: it, or what is left of it modulo a limit
abbrev pub cell_of : Option ℕ → ℕ → ℕ
cell_of None x = x
cell_of (Some limit) x = x % limit

-- a limit has cells below it
abbrev pub HasCells : Option ℕ → Type 0
HasCells None = Unit {0}
HasCells (Some limit) = 0 < limit

-- So many cells. The number goes on a step before each of them is drawn.
unfoldable pub drawn : Option ℕ → ℕ → ℕ → List ℕ
drawn limit zero x = []
drawn limit (suc k) x = cell_of limit (step x) ∷ drawn limit k (step x)

-- how many cells a row has, and below which limit they lie
pub record Row : Type 0 where
  pub count : ℕ
  pub limit : Option ℕ

-- the rows in turn
abbrev pub rows_from : List Row → ℕ → List (List ℕ)
rows_from [] x = []
rows_from (r ∷ rs) x = drawn r.limit r.count x ∷ rows_from rs (after r.count x)
