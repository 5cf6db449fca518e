-- Bytes in memory that was taken beforehand.
use Rattle.std.specs.Prelude.{ℕ, List}

-- the bytes, and how many there may be
pub record Bounded : Type 0 where
  pub items : List ℕ
  pub room : ℕ
