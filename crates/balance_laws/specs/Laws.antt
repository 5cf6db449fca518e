-- The laws that the totals of lists of accesses rest on, each as one statement.
use Rattle.std.specs.Prelude.{◌⊎◌, if◌then◌else◌, nat_lt, bit_xor, true, false, ◌&&◌, ◌≡◌, ◌≢◌, ◌↔◌, ◌^◌, ◌<◌, ◌≤◌, ◌-ℤ◌, ◌*ℤ◌, ℕ, ℤ, pos, unsigned_abs, length, List, Some, None}
use Rattle.c_tree.specs.Accesses.{Access, Definition, Clean, at, is_of, last_writer, latest, same_definition}
use Rattle.c_tree.specs.Accesses.Definition.{Initial, Written}
use Rattle.balance_laws.specs.Totals.{definition_total, use_total, uses_after, ReadsLastWriter, ReadsDifferAfter, SameModulo}
use Rattle.balance_laws.specs.Replay.{Replays, left_after}
use Rattle.c_tree.specs.Fault.{Exposed, Upset}
use Rattle.c_tree.specs.Arrays.{Memory}

-- where every access lies within its extents and every read gives the value of its last writer, both totals of each array are equal, whatever values are stored
abbrev pub TotalsAgree : Type 0
TotalsAgree = (list : List Access) (extents : ℕ → List ℤ) (inputs : Memory) (values : ℕ → ℕ) (array : ℕ) →
    Clean extents list → ReadsLastWriter list inputs values →
    use_total list values array ≡ definition_total list extents inputs values array

-- where the reads of one definition at a place or later differ by a number from its value, and all others agree, use total minus definition total is their number times it, modulo 2^128
abbrev pub TotalsDiffer : Type 0
TotalsDiffer = (list : List Access) (extents : ℕ → List ℤ) (inputs : Memory) (values : ℕ → ℕ) (array : ℕ) (d : Definition) (place : ℕ) (difference : ℤ) →
    Clean extents list → ReadsDifferAfter list inputs values d place difference →
    SameModulo (2 ^ 128)
    (pos (use_total list values array) -ℤ pos (definition_total list extents inputs values array))
    (pos (uses_after list d place array) *ℤ difference)

-- a difference of a word, fewer than 2^63 times, isn't 0 modulo 2^128
abbrev pub Imbalance : Type 0
Imbalance = (k : ℕ) (d : ℤ) → 1 ≤ k → k < 2 ^ 63 → 0 < unsigned_abs d → unsigned_abs d < 2 ^ 64 →
    ¬ SameModulo (2 ^ 128) (pos k *ℤ d) (pos 0)

-- what a memory without a flip gives is the value of the last writer
abbrev pub CalmMemory : Type 0
CalmMemory = (list : List Access) (inputs : Memory) (values : ℕ → ℕ) →
    Replays list values None inputs → ReadsLastWriter list inputs values

-- with a flip the totals of its array differ exactly where it is exposed
abbrev pub FlipIsTold : Type 0
FlipIsTold = (list : List Access) (extents : ℕ → List ℤ) (inputs : Memory) (values : ℕ → ℕ) (flip : Upset) →
    Clean extents list → length list < 2 ^ 63 → flip.bit < 64 →
    ((a : ℕ) (c : List ℤ) → inputs a c < 2 ^ 64) → ((q : ℕ) → values q < 2 ^ 64) →
    Replays list values (Some flip) inputs →
    (use_total list values flip.array ≢ definition_total list extents inputs values flip.array) ↔ Exposed list flip

-- and the totals of each other array agree
abbrev pub OthersAgree : Type 0
OthersAgree = (list : List Access) (extents : ℕ → List ℤ) (inputs : Memory) (values : ℕ → ℕ) (flip : Upset) (array : ℕ) →
    Clean extents list → Replays list values (Some flip) inputs → array ≢ flip.array →
    use_total list values array ≡ definition_total list extents inputs values array

-- two lists make the same accesses of an array, at the same positions
pub record SameFor (array : ℕ) (list other : List Access) : Type 0 where
  pub long : length list ≡ length other
  pub each : (q : ℕ) → ((at list q).array ≡ array) ⊎ ((at other q).array ≡ array) → at list q ≡ at other q

-- what is said of an array over the accesses that a run made is so over every list with the same accesses of that array
abbrev pub FlipIsToldOver : Type 0
FlipIsToldOver = (list made : List Access) (extents : ℕ → List ℤ) (inputs : Memory) (values : ℕ → ℕ) (flip : Upset) →
    SameFor flip.array list made → Clean extents made → length made < 2 ^ 63 → flip.bit < 64 →
    ((a : ℕ) (c : List ℤ) → inputs a c < 2 ^ 64) → ((q : ℕ) → values q < 2 ^ 64) →
    Replays made values (Some flip) inputs →
    (use_total list values flip.array ≢ definition_total list extents inputs values flip.array) ↔ Exposed list flip

-- the last writer is the greatest position below that writes the cell, and the initial value where there is none
pub record IsLastWriter (list : List Access) (q : ℕ) (d : Definition) : Type 0 where
  pub written : (p : ℕ) → d ≡ Written p →
      (p < q) × ((at list p).writes ≡ true) × (is_of (at list p) (at list q).array (at list q).cell ≡ true) ×
      ((i : ℕ) → p < i → i < q → ((at list i).writes && is_of (at list i) (at list q).array (at list q).cell) ≡ false)
  pub initial : (a : ℕ) (c : List ℤ) → d ≡ Initial a c →
      (a ≡ (at list q).array) × (c ≡ (at list q).cell) ×
      ((i : ℕ) → i < q → ((at list i).writes && is_of (at list i) (at list q).array (at list q).cell) ≡ false)

abbrev pub LastWriterIsLast : Type 0
LastWriterIsLast = (list : List Access) (q : ℕ) → IsLastWriter list q (last_writer list q)

-- where a flip isn't exposed, the same values follow the memory without it
abbrev pub HiddenFlip : Type 0
HiddenFlip = (list : List Access) (start : Memory) (values : ℕ → ℕ) (flip : Upset) → ¬ Exposed list flip →
    Replays list values (Some flip) start → Replays list values None start

-- what a flip leaves of the memory: one bit inverted, in its cell alone and where no write of it stands at the place or later
abbrev pub FlippedMemory : Type 0
FlippedMemory = (list : List Access) (start : Memory) (values : ℕ → ℕ) (flip : Upset) (n array : ℕ) (cell : List ℤ) →
    left_after list values (Some flip) start n array cell ≡
    (if nat_lt flip.place n && same_definition (latest list array cell n) (latest list flip.array flip.cell flip.place)
    then bit_xor (left_after list values None start n array cell) (2 ^ flip.bit) else left_after list values None start n array cell)
