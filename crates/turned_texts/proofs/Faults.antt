-- Faults in the two sources' arrays: which are exposed.
use Rattle.std.proofs.Common.{◌≡◌, ℕ, ◌<◌, true, false, refl, sym, arith, lit<, lit≤, subst, inl, inr}
use Rattle.c_tree.specs.Accesses.{at}
use Rattle.c_tree.specs.Fault.{Fault}
use Rattle.c_tree.specs.Instances.{accesses}
use Rattle.c_tree.specs.Inputs.{memory_for}
use Rattle.c_tree.specs.Flips.{IsFaultFor}
use Rattle.guard_laws.specs.Guards.{IsRead}
use Rattle.turned_texts.specs.Sources.{sums, one_to_three, fill, five, chase, round}
use Rattle.std.proofs.Math.Nat.{eq-or-lt_of_le}

-- a bit of a cell of A
abbrev pub in_sums : ℕ → ℕ → ℕ → Fault
in_sums cell bit place = record { array = 0; cell = cell; bit = bit; place = place }

-- A[0] before both its reads
pub first_fits : (bit : ℕ) → bit < 64 → IsFaultFor sums one_to_three (in_sums 0 bit 0)
first_fits bit small = record { array = lit< tt; cell = lit< tt; bit = small }

pub first_is_read : (bit : ℕ) → IsRead sums one_to_three (in_sums 0 bit 0)
first_is_read bit = record { next = 0; later = lit≤ tt; exists = lit< tt; of_cell = refl; reads = refl; first = λ p from below. absurd (omega (arith, below)) }

-- A[1] before its write
pub second_fits : IsFaultFor sums one_to_three (in_sums 1 0 3)
second_fits = record { array = lit< tt; cell = lit< tt; bit = lit< tt }

pub second_is_not_read : ¬ IsRead sums one_to_three (in_sums 1 0 3)
second_is_not_read r =
    elim (eq-or-lt_of_le r.later) [
      | inl same ↦ let writes : true ≡ false = subst (λ k. (at (accesses sums one_to_three.ints (memory_for sums one_to_three)) k).writes ≡ false) (sym same) r.reads in cc
      | inr below ↦ let other : true ≡ false = r.first 3 (lit≤ tt) below in cc
    ]

-- A[1] before its read behind that write
pub third_fits : IsFaultFor sums one_to_three (in_sums 1 0 4)
third_fits = record { array = lit< tt; cell = lit< tt; bit = lit< tt }

pub third_is_read : IsRead sums one_to_three (in_sums 1 0 4)
third_is_read = record { next = 4; later = lit≤ tt; exists = lit< tt; of_cell = refl; reads = refl; first = λ p from below. absurd (omega (arith, from, below)) }

-- B[0] before both its reads
abbrev pub in_fill : Fault
in_fill = record { array = 1; cell = 0; bit = 0; place = 0 }

pub fill_fits : IsFaultFor fill five in_fill
fill_fits = record { array = lit< tt; cell = lit< tt; bit = lit< tt }

pub fill_is_read : IsRead fill five in_fill
fill_is_read = record { next = 0; later = lit≤ tt; exists = lit< tt; of_cell = refl; reads = refl; first = λ p from below. absurd (omega (arith, below)) }

-- P[0] before its read, 2 and then 10
abbrev pub in_chase : Fault
in_chase = record { array = 0; cell = 0; bit = 3; place = 0 }

pub chase_fits : IsFaultFor chase round in_chase
chase_fits = record { array = lit< tt; cell = lit< tt; bit = lit< tt }

pub chase_is_read : IsRead chase round in_chase
chase_is_read = record { next = 0; later = lit≤ tt; exists = lit< tt; of_cell = refl; reads = refl; first = λ p from below. absurd (omega (arith, below)) }
