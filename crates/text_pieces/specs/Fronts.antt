-- Fronts of a text.
use Rattle.std.specs.Prelude.{ℕ, Bool, not, nat_eq, List, take, drop}
use Rattle.std.specs.List.{prefix_len}

-- the longest front of bytes that pass a test, and what follows it
abbrev pub run : (ℕ → Bool) → List ℕ → List ℕ
run test text = take (prefix_len test text) text

abbrev pub behind : (ℕ → Bool) → List ℕ → List ℕ
behind test text = drop (prefix_len test text) text

-- no line feed
abbrev pub is_in_line : ℕ → Bool
is_in_line b = not (nat_eq b 10)
