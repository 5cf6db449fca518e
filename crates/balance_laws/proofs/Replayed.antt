-- What a replay reads is the value of the last writer, but for the definition that stands at the flip's place.
use Rattle.std.proofs.Common.{ℤ, nat_le, nat_lt, ◌≡◌, ◌≢◌, ℕ, zero, suc, ◌^◌, ◌≤◌, Bool, true, false, ◌&&◌, cond, eqb, List, refl, sym, ap, ◌∙◌, arith, inl, inr, eq-eqb, Some, None}
use Rattle.std.proofs.lemmas.Bool.{cases_lt, cases_eq, cases_Bool, and_parts, and_from, and_left, and_right, eqb-true, ne_eqb, cond-true, cond-false, false_from_ne_true, true≢false, le-leb, lt-leb, le-ltb}
use Rattle.std.proofs.lemmas.Bool.Decides.{nat_tests}
use Rattle.c_tree.specs.Accesses.{Access, at, is_of, Definition, same_definition, latest}
use Rattle.c_tree.specs.Accesses.Definition.{Written}
use Rattle.balance_laws.specs.Totals.{value_of, ReadsLastWriter, ReadsButAfter}
use Rattle.balance_laws.specs.Replay.{after_access, left_after, Replays}
use Rattle.std.specs.Prelude.{bit_xor}
use Rattle.balance_laws.proofs.Latest.{is_of-true, IsLatest, latest_is, latest_start, latest_written, latest_kept, same_definition-true, same_definition_refl}
use Rattle.cell_laws.proofs.SameCell.{same_cell_refl, same_cell-true}
use Rattle.balance_laws.proofs.Latest.IsLatest.{at_first, by_write}
use Rattle.c_tree.specs.Fault.{Upset, disturbed}
use Rattle.c_tree.specs.Arrays.{Memory, same_cell}

-- a definition is of one cell
owner_of : (list : List Access) (a b n m : ℕ) (c e : List ℤ) (x y : Definition) → IsLatest list a c n x → IsLatest list b e m y → x ≡ y → (a ≡ b) × (c ≡ e)
owner_of list a b n m c e x y (at_first p) (at_first q) s = (cc, cc)
owner_of list a b n m c e x y (at_first p) (by_write i l w q) s = absurd cc
owner_of list a b n m c e x y (by_write i l w q) (at_first p) s = absurd cc
owner_of list a b n m c e x y (by_write i l w q) (by_write j k v r) s =
    let same : i ≡ j = cc in
    let f : ((at list i).array ≡ a) × ((at list i).cell ≡ c) = is_of-true (at list i) a c (and_parts _ _ w).1 in
    let g : ((at list j).array ≡ b) × ((at list j).cell ≡ e) = is_of-true (at list j) b e (and_parts _ _ v).1 in
    (sym f.0 ∙ ap (λ k. (at list k).array) same ∙ g.0, sym f.1 ∙ ap (λ k. (at list k).cell) same ∙ g.1)

pub owner : (list : List Access) (a b n m : ℕ) (c e : List ℤ) → same_definition (latest list a c n) (latest list b e m) ≡ true → (a ≡ b) × (c ≡ e)
owner list a b n m c e s = owner_of list a b n m c e _ _ (latest_is list a c n) (latest_is list b e m) (same_definition-true _ _ s)

-- a later write is not the latest definition
not_latest_of : (list : List Access) (a n m : ℕ) (c : List ℤ) (y : Definition) → n ≤ m → IsLatest list a c n y → same_definition (Written m) y ≡ false
not_latest_of list a n m c y l (at_first e) = rw e refl
not_latest_of list a n m c y l (by_write p b w e) = rw e (ne_eqb m p (omega arith))

pub not_latest : (list : List Access) (a n m : ℕ) (c : List ℤ) → n ≤ m → same_definition (Written m) (latest list a c n) ≡ false
not_latest list a n m c l = not_latest_of list a n m c _ l (latest_is list a c n)

-- with no flip
module _ (list : List Access) (values : ℕ → ℕ) (start : Memory) where
  pub plain_memory : (n a : ℕ) (c : List ℤ) → left_after list values None start n a c ≡ value_of start values (latest list a c n)
  unfolding left_after after_access disturbed
  plain_memory zero a c = rw latest_start refl
  plain_memory (suc n) a c =
      elim (cases_Bool (at list n).writes) [
        | inr e ↦ (
            let k = latest_kept list a c n (and_left _ _ e) in
            rw (e, k) (plain_memory n a c))
        | inl e ↦
            elim (cases_Bool (is_of (at list n) a c)) [
              | inl s ↦ (
                  let k = latest_written list a c n (and_from _ _ e s) in
                  rw (e, k) (cond-true _ _ _ s))
              | inr s ↦ (
                  let k = latest_kept list a c n (and_right _ _ s) in
                  rw (e, k) (cond-false _ _ _ s ∙ plain_memory n a c))
            ]
      ]

  pub plain_reads : Replays list values None start → ReadsLastWriter list start values
  unfolding disturbed
  plain_reads h = λ q l e. h q l e ∙ plain_memory q _ _

-- with a flip
le_is_lt : (m n : ℕ) → nat_lt m (suc n) ≡ nat_le m n
le_is_lt m n = grind (arith, nat_tests)

lt_is_le : (m n : ℕ) → m ≢ n → nat_le m n ≡ nat_lt m n
lt_is_le m n ne = grind (arith, nat_tests)

module _ (list : List Access) (values : ℕ → ℕ) (start : Memory) (f : Upset) where
  -- the definition that stands at the flip's place
  abbrev pub struck : Definition
  struck = latest list f.array f.cell f.place

  -- its value with the bit inverted
  abbrev pub struck_value : ℕ
  struck_value = bit_xor (value_of start values struck) (2 ^ f.bit)

  -- the values of a cell while the flip is done where t says
  abbrev pub seen : Bool → ℕ → ℕ → List ℤ → ℕ
  seen t n a c = cond (t && same_definition (latest list a c n) struck) struck_value (value_of start values (latest list a c n))

  flip_here : (n : ℕ) → ((a : ℕ) (c : List ℤ) → left_after list values (Some f) start n a c ≡ seen (nat_lt f.place n) n a c) →
      (a : ℕ) (c : List ℤ) → f.place ≡ n → (eqb f.array a && same_cell f.cell c) ≡ true →
      disturbed (Some f) n (left_after list values (Some f) start n) a c ≡ seen (nat_le f.place n) n a c
  unfolding disturbed
  flip_here n h a c e s =
      let parts : (eqb f.array a ≡ true) × (same_cell f.cell c ≡ true) = and_parts _ _ s in
      let ea : f.array ≡ a = eqb-true _ _ parts.0 in
      let ec : f.cell ≡ c = same_cell-true _ _ parts.1 in
      let l : latest list a c n ≡ struck = cc in
      let l2 : latest list f.array f.cell n ≡ struck = cc in
      let m : left_after list values (Some f) start n f.array f.cell ≡ value_of start values struck =
      h f.array f.cell ∙ rw (le-ltb f.place n (omega arith), l2) refl in
      rw (eq-eqb _ _ e, le-leb f.place n (omega arith), s, l, same_definition_refl, m) refl

  flip_there : (n : ℕ) → ((a : ℕ) (c : List ℤ) → left_after list values (Some f) start n a c ≡ seen (nat_lt f.place n) n a c) →
      (a : ℕ) (c : List ℤ) → f.place ≡ n → (eqb f.array a && same_cell f.cell c) ≡ false →
      disturbed (Some f) n (left_after list values (Some f) start n) a c ≡ seen (nat_le f.place n) n a c
  unfolding disturbed
  flip_there n h a c e s =
      let other : same_definition (latest list a c n) struck ≡ false =
      false_from_ne_true _ (λ t.
      let o : (a ≡ f.array) × (c ≡ f.cell) = owner list a f.array n f.place c f.cell t in
      let yes : (eqb f.array a && same_cell f.cell c) ≡ true = and_from _ _ (eq-eqb _ _ (sym o.0)) (rw o.1 (same_cell_refl f.cell)) in
      true≢false (sym yes ∙ s)) in
      let m : left_after list values (Some f) start n a c ≡ value_of start values (latest list a c n) =
      h a c ∙ rw (le-ltb f.place n (omega arith)) refl in
      rw (eq-eqb _ _ e, le-leb f.place n (omega arith), s, m, other) refl

  -- what the flip makes of the memory that is left
  flip_step : (n : ℕ) → ((a : ℕ) (c : List ℤ) → left_after list values (Some f) start n a c ≡ seen (nat_lt f.place n) n a c) →
      (a : ℕ) (c : List ℤ) → disturbed (Some f) n (left_after list values (Some f) start n) a c ≡ seen (nat_le f.place n) n a c
  unfolding disturbed
  flip_step n h a c =
      elim (cases_eq f.place n) [
        | inr ne ↦ rw (ne_eqb _ _ ne, lt_is_le _ _ ne) (h a c)
        | inl e ↦
            elim (cases_Bool (eqb f.array a && same_cell f.cell c)) [
              | inl s ↦ flip_here n h a c e s
              | inr s ↦ flip_there n h a c e s
            ]
      ]

  late : (n : ℕ) → (nat_le f.place n && same_definition (Written n) struck) ≡ false
  late n =
      elim (cases_lt n f.place) [
        | inl l ↦ and_left _ _ (lt-leb f.place n l)
        | inr l ↦ and_right _ _ (not_latest list f.array f.place n f.cell l)
      ]

  access_step : (n : ℕ) → ((a : ℕ) (c : List ℤ) → disturbed (Some f) n (left_after list values (Some f) start n) a c ≡ seen (nat_le f.place n) n a c) →
      (a : ℕ) (c : List ℤ) → left_after list values (Some f) start (suc n) a c ≡ seen (nat_lt f.place (suc n)) (suc n) a c
  unfolding left_after after_access
  access_step n h a c =
      elim (cases_Bool (at list n).writes) [
        | inr e ↦ (
            let k = latest_kept list a c n (and_left _ _ e) in
            rw (e, k, le_is_lt) (h a c))
        | inl e ↦
            elim (cases_Bool (is_of (at list n) a c)) [
              | inl s ↦ (
                  let k = latest_written list a c n (and_from _ _ e s) in
                  rw (e, k, le_is_lt) (cond-true _ _ _ s ∙ sym (cond-false _ _ _ (late n))))
              | inr s ↦ (
                  let k = latest_kept list a c n (and_right _ _ s) in
                  rw (e, k, le_is_lt) (cond-false _ _ _ s ∙ h a c))
            ]
      ]

  pub flip_memory : (n a : ℕ) (c : List ℤ) → left_after list values (Some f) start n a c ≡ seen (nat_lt f.place n) n a c
  unfolding left_after
  flip_memory zero a c = rw (latest_start, le-ltb f.place 0 (omega arith)) refl
  flip_memory (suc n) a c = access_step n (flip_step n (flip_memory n)) a c

  pub flip_reads : Replays list values (Some f) start → ReadsButAfter list start values struck f.place struck_value
  flip_reads h = λ q l e. h q l e ∙ flip_step q (flip_memory q) _ _ ∙ rw e refl
