-- A line that was tried on the error stream.
use Rattle.std.specs.Prelude.{ℕ, List, Result}
use Rattle.edge.specs.Sink.{Held, Writes}
use Rattle.edge.specs.declared.sink.SinkFailed.{SinkFailed}

-- it stands there, or a prefix of it where the count rose
pub record Tries (before now : Held) (line : List ℕ) : Type 0 where
  pub result : Result (Unit {0}) SinkFailed
  pub writes : Writes before now line result
