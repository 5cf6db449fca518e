-- What a memory gives at each access of a list, with one bit of one cell inverted at a place.
use Rattle.std.specs.Prelude.{◌≡◌, ℕ, zero, suc, ◌<◌, false, if◌then◌else◌, List, length, Option}
use Rattle.c_tree.specs.Accesses.{Access, at}
use Rattle.c_tree.specs.Arrays.{Memory, stored}
use Rattle.c_tree.specs.Fault.{Upset, disturbed}

-- the memory after access number n
unfoldable pub after_access : List Access → (ℕ → ℕ) → ℕ → Memory → Memory
after_access list values n memory =
    if (at list n).writes then stored memory (at list n).array (at list n).cell (values n) else memory

-- the memory that the first n accesses leave
unfoldable pub left_after : List Access → (ℕ → ℕ) → Option Upset → Memory → ℕ → Memory
left_after list values flip start zero = start
left_after list values flip start (suc n) =
    after_access list values n (disturbed flip n (left_after list values flip start n))

-- each read gives what the memory holds
abbrev pub Replays : List Access → (ℕ → ℕ) → Option Upset → Memory → Type 0
Replays list values flip start =
    (q : ℕ) → q < length list → (at list q).writes ≡ false →
    values q ≡ disturbed flip q (left_after list values flip start q) (at list q).array (at list q).cell
