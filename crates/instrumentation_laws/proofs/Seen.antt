-- Memory where the fault hasn't come.
use Rattle.std.proofs.Common.{◌≡◌, inl, inr, ℕ, suc, ◌<◌, Bool, true, false, ◌&&◌, ◌==◌, if◌then◌else◌, List, nat_lt, refl, sym, ap, ◌∙◌, arith, ℤ, Option, Some, None, true≢false}
use Rattle.std.proofs.lemmas.Bool.{cases_Bool, cases_lt, eqb-true, ltb-true, lt-ltb}
use Rattle.c_tree.specs.Arrays.{Memory, stored, same_cell}
use Rattle.c_tree.specs.Fault.{Upset, altered, disturbed}
use Rattle.instrumentation_laws.specs.Kept.{seen}

no_more : (x y : Bool) → (x && y) ≡ false → x ≡ true → y ≡ false
no_more true y e g = e
no_more false y e g = absurd (true≢false (sym g))

none_first : (x y : Bool) → y ≡ false → (x && y) ≡ false
none_first true y e = e
none_first false y e = refl

-- by access n the fault hasn't come to the cell, so the cell is as it was
pub undisturbed : (fault : Option Upset) (n : ℕ) (m : Memory) (p : ℕ) (c : List ℤ) → seen fault (suc n) p c ≡ false → (seen fault n p c ≡ false) × (disturbed fault n m p c ≡ m p c)
unfolding disturbed
undisturbed None n m p c e = (refl, refl)
undisturbed (Some f) n m p c e =
    elim (cases_Bool (nat_lt f.place (suc n))) [
      | inl l ↦ (
          let other : ((f.array == p) && same_cell f.cell c) ≡ false = no_more (nat_lt f.place (suc n)) ((f.array == p) && same_cell f.cell c) e l in
          (none_first (nat_lt f.place n) ((f.array == p) && same_cell f.cell c) other, kept (f.place == n) other))
      | inr g ↦ (
          let late : n < f.place = (let h : nat_lt f.place (suc n) ≡ false = g in past h) in
          let apart : (f.place == n) ≡ false = elim (cases_Bool (f.place == n)) [ inl e ↦ absurd (let same : f.place ≡ n = eqb-true f.place n e in omega arith) | inr e ↦ e ] in
          let before : nat_lt f.place n ≡ false = elim (cases_Bool (nat_lt f.place n)) [ inl e ↦ absurd (let l : f.place < n = ltb-true f.place n e in omega arith) | inr e ↦ e ] in
          (ap (λ b. b && ((f.array == p) && same_cell f.cell c)) before, ap (λ b. (if b then stored m f.array f.cell (altered f.bit (m f.array f.cell)) else m) p c) apart))
    ]
  where
    kept : (b : Bool) → ((f.array == p) && same_cell f.cell c) ≡ false → (if b then stored m f.array f.cell (altered f.bit (m f.array f.cell)) else m) p c ≡ m p c
    kept true h = ap (λ b. if b then altered f.bit (m f.array f.cell) else m p c) h
    kept false h = refl

    past : nat_lt f.place (suc n) ≡ false → n < f.place
    past h = elim (cases_lt n f.place) [ inl l ↦ l | inr g ↦ absurd (let l : nat_lt f.place (suc n) ≡ true = lt-ltb f.place (suc n) (omega arith) in true≢false (sym l ∙ h)) ]
