-- The totals of an instrumented text while it runs: what they are over the accesses that were made so far.
use Rattle.std.specs.Prelude.{◌≡◌, ℕ, suc, ◌+◌, ◌*◌, not, ◌&&◌, if◌then◌else◌, nat_eq, List, [], ◌∷◌, length, ℤ, Option}
use Rattle.c_tree.specs.Arrays.{Memory}
use Rattle.c_tree.specs.Accesses.{Clean}
use Rattle.c_tree.specs.Fault.{Upset}
use Rattle.c_tree.specs.Run.{Event}
use Rattle.balance_laws.specs.Replay.{left_after, Replays}
use Rattle.run_laws.specs.Logs.{accesses_in, values_in}

-- the sum of the values that an array's reads gave
abbrev pub read_sum : ℕ → List Event → ℕ
read_sum a [] = 0
read_sum a (e ∷ events) = (if not e.access.writes && nat_eq e.access.array a then e.value else 0) + read_sum a events

-- the sum of an array's written values, each times its uses; the first event has position n
abbrev pub written_sum : (ℕ → ℕ) → ℕ → ℕ → List Event → ℕ
written_sum used a n [] = 0
written_sum used a n (e ∷ events) = (if e.access.writes && nat_eq e.access.array a then e.value * used n else 0) + written_sum used a (suc n) events

-- the accesses so far lie within their extents and follow the memory, which is now m
pub record Follows (fault : Option Upset) (inputs : Memory) (extents : ℕ → List ℤ) (events : List Event) (m : Memory) : Type 0 where
  pub memory : m ≡ left_after (accesses_in events) (values_in events) fault inputs (length events)
  pub replays : Replays (accesses_in events) (values_in events) fault inputs
  pub clean : Clean extents (accesses_in events)
