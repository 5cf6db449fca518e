-- What a sink tells of itself, what a write takes, and what writing a whole text appends.
use Rattle.std.specs.Prelude.{◌≡◌, ℕ, ◌<◌, ◌≤◌, List, ◌++◌, length, take, Option, option_map, Result, Ok, Err, IfOk, OnOk, OnErr}
use Rattle.edge.specs.Causes.{HasCause}
use Rattle.edge.specs.declared.sink.SinkFailed.{SinkFailed}

-- what a sink tells of itself: the bytes written so far, and how often it has failed
pub record Held : Type 0 where
  pub bytes : Option (List ℕ)
  pub faults : ℕ

-- a prefix of the piece, of at least one byte where there is one
pub record IsTaken (piece : List ℕ) (taken : ℕ) : Type 0 where
  pub within : taken ≤ length piece
  pub some : 0 < length piece → 0 < taken

-- how many bytes a write took: none where it failed
abbrev pub taken_of : Result ℕ SinkFailed → ℕ
taken_of (Ok taken) = taken
taken_of (Err failed) = 0

-- the bytes, where they are told, with more at the end
abbrev pub appended : Option (List ℕ) → List ℕ → Option (List ℕ)
appended bytes more = option_map (λ written. written ++ more) bytes

-- a write: what it takes of the piece, and what it does to what the sink tells
pub record Takes (before now : Held) (piece : List ℕ) (result : Result ℕ SinkFailed) : Type 0 where
  pub taken : IfOk result (IsTaken piece)
  pub bytes : now.bytes ≡ appended before.bytes (take (taken_of result) piece)
  pub cause : HasCause before.faults now.faults result

-- a prefix of the text was appended
abbrev pub AppendsPart : Option (List ℕ) → Option (List ℕ) → List ℕ → Type 0
AppendsPart before now text = (n : ℕ) × (n ≤ length text) × (now ≡ appended before (take n text))

-- writing a whole text: all of it was appended, or a prefix where a write failed
pub record Writes (before now : Held) (text : List ℕ) (result : Result (Unit {0}) SinkFailed) : Type 0 where
  pub whole : OnOk result (now.bytes ≡ appended before.bytes text)
  pub part : OnErr result (AppendsPart before.bytes now.bytes text)
  pub cause : HasCause before.faults now.faults result
