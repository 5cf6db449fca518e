-- One flip makes the totals of its array differ exactly where it is exposed, and those of no other array.
use Rattle.std.proofs.Common.{ℤ, ◌↔◌, nat_le, ◌≡◌, ◌≢◌, ℕ, zero, suc, ◌+◌, ◌*◌, ◌%◌, ◌-◌, ◌^◌, ◌<◌, ◌≤◌, Bool, true, false, not, ◌&&◌, cond, eqb, List, refl, sym, ap, ◌∙◌, arith, inl, inr, eq-eqb, length, subst, Some}
use Rattle.std.proofs.lemmas.Bool.{cases_lt, cases_eq, cases_Bool, and_parts, and_from, and_right, eqb-true, cond-true, cond-false, not-true, false_from_ne_true, true≢false, not_from_false, leb-true, le-leb}
use Rattle.std.proofs.lemmas.Nat.{xor_lt, pow_below, mul-le, mul-lt}
use Rattle.std.proofs.lemmas.Nat.Bits.{bit_at_xor, bit_at-pow_same}
use Rattle.std.specs.Int.{bit_at}
use Rattle.c_tree.specs.Accesses.{Access, at, is_of, Definition, same_definition, latest, last_writer, reads_from, Clean}
use Rattle.c_tree.specs.Accesses.Definition.{Written}
use Rattle.balance_laws.specs.Totals.{value_of, reads_after, uses_after, use_sum, definition_sum, use_total, definition_total}
use Rattle.balance_laws.specs.Replay.{Replays}
use Rattle.std.specs.Prelude.{bit_xor}
use Rattle.balance_laws.proofs.Sums.{sum_below_zero, le_sum_below, sum_below_le, sum_below_some}
use Rattle.balance_laws.proofs.Latest.{is_of-true, writes_at, IsLatest, latest_is, latest_written, latest_kept, same_definition-true, same_definition_refl}
use Rattle.cell_laws.proofs.SameCell.{same_cell_refl}
use Rattle.balance_laws.proofs.Latest.IsLatest.{at_first, by_write}
use Rattle.balance_laws.proofs.Laws.{sums_differ}
use Rattle.balance_laws.proofs.Replayed.{owner, not_latest, struck_value, flip_reads}
use Rattle.c_tree.specs.Fault.{Exposed, Upset}
use Rattle.c_tree.specs.Arrays.{Memory}

-- the first place from p on, up to q, that passes
pub first_true : (t : ℕ → Bool) (r p q : ℕ) → p + r ≡ q → t q ≡ true → (k : ℕ) × (p ≤ k) × (k ≤ q) × (t k ≡ true) × ((i : ℕ) → p ≤ i → i < k → t i ≡ false)
first_true t zero p q e h = (q, omega arith, omega arith, h, λ i l m. absurd (omega arith))
first_true t (suc r) p q e h =
    elim (cases_Bool (t p)) [
      | inl y ↦ (p, omega arith, omega arith, y, λ i l m. absurd (omega arith))
      | inr n ↦
          (let s : (k : ℕ) × (suc p ≤ k) × (k ≤ q) × (t k ≡ true) × ((i : ℕ) → suc p ≤ i → i < k → t i ≡ false) = first_true t r (suc p) q (omega arith) h in (
            s.0,
            omega arith,
            s.2,
            s.3,
            λ i l m.
                elim (cases_eq p i) [
                  | inl same ↦ sym (ap t same) ∙ n
                  | inr ne ↦ s.4 i (omega arith) m
                ],
          ))
    ]

-- where no access of a cell stands between, its latest definition stays
pub latest_stays : (list : List Access) (a : ℕ) (c : List ℤ) (m q : ℕ) → m ≤ q → ((p : ℕ) → m ≤ p → p < q → is_of (at list p) a c ≡ false) → latest list a c q ≡ latest list a c m
latest_stays list a c m zero l h = ap (latest list a c) (omega arith)
latest_stays list a c m (suc q) l h =
    elim (cases_eq m (suc q)) [
      | inl e ↦ ap (latest list a c) (sym e)
      | inr ne ↦ latest_kept list a c q (and_right _ _ (h q (omega arith) (omega arith))) ∙ latest_stays list a c m q (omega arith) (λ p x y. h p x (omega arith))
    ]

-- where it stays, no write of the cell stands between
pub no_write : (list : List Access) (a : ℕ) (c : List ℤ) (m q p : ℕ) → latest list a c q ≡ latest list a c m → m ≤ p → p < q → writes_at list p a c ≡ false
no_write list a c m zero p e l b = absurd (omega arith)
no_write list a c m (suc q) p e l b =
    elim (cases_Bool (writes_at list q a c)) [
      | inl w ↦ absurd (
          let none : same_definition (Written q) (latest list a c m) ≡ false = not_latest list a m q c (omega arith) in
          let all : same_definition (Written q) (latest list a c m) ≡ true =
          subst (λ d. same_definition (Written q) d ≡ true) (sym (latest_written list a c q w) ∙ e) (same_definition_refl (Written q)) in
          true≢false (sym all ∙ none))
      | inr n ↦
          elim (cases_eq p q) [
            | inl same ↦ subst (λ k. writes_at list k a c ≡ false) (sym same) n
            | inr ne ↦ no_write list a c m q p (sym (latest_kept list a c q n) ∙ e) l (omega arith)
          ]
    ]

-- x with a bit inverted isn't x
xor_moves : (x b : ℕ) → bit_xor x (2 ^ b) ≢ x
xor_moves x b e =
    let m : bit_at (bit_xor x (2 ^ b)) b ≡ (bit_at x b + bit_at (2 ^ b) b) % 2 = bit_at_xor x (2 ^ b) b in
    let one : bit_at (2 ^ b) b ≡ 1 = bit_at-pow_same b in
    let same : bit_at (bit_xor x (2 ^ b)) b ≡ bit_at x b = ap (λ y. bit_at y b) e in
    omega arith

-- a part: k times two different words, in sums that agree modulo 2^128
parts_differ : (u d k x y : ℕ) → 0 < k → k < 2 ^ 63 → x < 2 ^ 64 → y < 2 ^ 64 → x ≢ y → u + k * x ≡ d + k * y → u % 2 ^ 128 ≢ d % 2 ^ 128
parts_differ u d k x y low high fx fy ne e same =
    let a : k * x < 2 ^ 127 = omega (arith, mul-lt k x (2 ^ 63) (2 ^ 64) high fx) in
    let b : k * y < 2 ^ 127 = omega (arith, mul-lt k y (2 ^ 63) (2 ^ 64) high fy) in
    elim (cases_lt x y) [
      | inl l ↦ omega (arith, mul-le k (x + 1) k y (omega arith) (omega arith))
      | inr l ↦ omega (arith, mul-le k (y + 1) k x (omega arith) (omega arith))
    ]

module _ (list : List Access) (f : Upset) where
  -- the definition that stands at the flip's place
  abbrev at_place : Definition
  at_place = latest list f.array f.cell f.place

  abbrev one : ℕ → ℕ → ℕ
  one a q = cond (reads_after list at_place f.place q && eqb (at list q).array a) 1 0

  one_if : (t : Bool) → 0 < cond t 1 0 → t ≡ true
  one_if true h = refl
  one_if false h = absurd (omega arith)

  pub uses_from_exposed : Exposed list f → 0 < uses_after list at_place f.place f.array
  unfolding uses_after
  uses_from_exposed x =
      let o : ((at list x.next).array ≡ f.array) × ((at list x.next).cell ≡ f.cell) = is_of-true (at list x.next) f.array f.cell x.of_cell in
      let s : latest list f.array f.cell x.next ≡ at_place = latest_stays list f.array f.cell f.place x.next x.later x.first in
      let w : last_writer list x.next ≡ at_place = rw (o.0, o.1) s in
      let d : same_definition (last_writer list x.next) at_place ≡ true = rw w (same_definition_refl at_place) in
      let t : (reads_after list at_place f.place x.next && eqb (at list x.next).array f.array) ≡ true =
      and_from _ _ (and_from _ _ (le-leb f.place x.next x.later) (and_from _ _ (not_from_false _ x.reads) d)) (eq-eqb _ _ o.0) in
      let e : one f.array x.next ≡ 1 = cond-true _ 1 0 t in
      let l = le_sum_below (one f.array) x.next (length list) x.exists in
      omega arith

  pub exposed_from_uses : 0 < uses_after list at_place f.place f.array → Exposed list f
  unfolding uses_after
  exposed_from_uses h =
      let s : (q : ℕ) × (q < length list) × (0 < one f.array q) = sum_below_some (one f.array) (length list) h in
      let q : ℕ = s.0 in
      let t : (reads_after list at_place f.place q && eqb (at list q).array f.array) ≡ true = one_if _ s.2 in
      let after : (nat_le f.place q ≡ true) × (reads_from list at_place q ≡ true) = and_parts _ _ (and_parts _ _ t).0 in
      let later : f.place ≤ q = leb-true _ _ after.0 in
      let from : (not (at list q).writes ≡ true) × (same_definition (last_writer list q) at_place ≡ true) = and_parts _ _ after.1 in
      let o : ((at list q).array ≡ f.array) × ((at list q).cell ≡ f.cell) = owner list (at list q).array f.array q f.place (at list q).cell f.cell from.1 in
      let stays : latest list f.array f.cell q ≡ at_place = sym (ap (λ x. latest list x (at list q).cell q) o.0 ∙ ap (λ y. latest list f.array y q) o.1) ∙ same_definition-true _ _ from.1 in
      let of : is_of (at list q) f.array f.cell ≡ true = and_from _ _ (eq-eqb _ _ o.0) (rw o.1 (same_cell_refl f.cell)) in
      let k : (k : ℕ) × (f.place ≤ k) × (k ≤ q) × (is_of (at list k) f.array f.cell ≡ true) × ((i : ℕ) → f.place ≤ i → i < k → is_of (at list i) f.array f.cell ≡ false) =
      first_true (λ i. is_of (at list i) f.array f.cell) (q - f.place) f.place q (omega arith) of in
      record {
        next = k.0;
        later = k.1;
        exists = omega arith;
        of_cell = k.3;
        reads =
            elim (cases_eq k.0 q) [
              | inl e ↦ ap (λ i. (at list i).writes) e ∙ not-true _ from.0
              | inr ne ↦ reads_if _ _ k.3 (no_write list f.array f.cell f.place q k.0 stays k.1 (omega arith))
            ];
        first = k.4;
      }
    where
      reads_if : (w t : Bool) → t ≡ true → (w && t) ≡ false → w ≡ false
      reads_if true t e h = absurd (true≢false (sym e ∙ h))
      reads_if false t e h = refl

  pub no_uses_elsewhere : (a : ℕ) → a ≢ f.array → uses_after list at_place f.place a ≡ 0
  unfolding uses_after
  no_uses_elsewhere a ne = sum_below_zero (one a) (length list) (λ q l. cond-false _ 1 0 (false_from_ne_true _ (λ t.
      let from : (reads_after list at_place f.place q ≡ true) × (eqb (at list q).array a ≡ true) = and_parts _ _ t in
      let d : same_definition (last_writer list q) at_place ≡ true = (and_parts _ _ (and_parts _ _ from.0).1).1 in
      let o : ((at list q).array ≡ f.array) × ((at list q).cell ≡ f.cell) = owner list (at list q).array f.array q f.place (at list q).cell f.cell d in
      ne (sym (eqb-true _ _ from.1) ∙ o.0))))

  pub uses_after_le : (a : ℕ) → uses_after list at_place f.place a ≤ length list
  unfolding uses_after
  uses_after_le a = sum_below_le (one a) (length list) (λ q. at_most_one _)
    where
      at_most_one : (t : Bool) → cond t 1 0 ≤ 1
      at_most_one true = omega arith
      at_most_one false = omega arith

value_fits : (list : List Access) (start : Memory) (values : ℕ → ℕ) (a q : ℕ) (c : List ℤ) (d : Definition) → ((a : ℕ) (c : List ℤ) → start a c < 2 ^ 64) → ((p : ℕ) → values p < 2 ^ 64) →
    IsLatest list a c q d → value_of start values d < 2 ^ 64
value_fits list start values a q c d s v (at_first e) = rw e (s a c)
value_fits list start values a q c d s v (by_write p l w e) = rw e (v p)

module _ (list : List Access) (extents : ℕ → List ℤ) (start : Memory) (values : ℕ → ℕ) (f : Upset)
    (clean : Clean extents list) (replays : Replays list values (Some f) start) where
  pub quiet_elsewhere : (a : ℕ) → uses_after list (latest list f.array f.cell f.place) f.place a ≡ 0 → use_total list values a ≡ definition_total list extents start values a
  quiet_elsewhere a z =
      let d : Definition = latest list f.array f.cell f.place in
      let e = sums_differ list extents start values a d f.place (struck_value list values start f) clean (flip_reads list values start f replays) in
      let s : use_sum list values a ≡ definition_sum list extents start values a = (let e2 = rw z at e in omega arith) in
      ap (λ x. x % 2 ^ 128) s

  -- the totals of the other arrays agree
  pub others_agree : (a : ℕ) → a ≢ f.array → use_total list values a ≡ definition_total list extents start values a
  others_agree a ne = quiet_elsewhere a (no_uses_elsewhere list f a ne)

  told_where_exposed : length list < 2 ^ 63 → f.bit < 64 → ((a : ℕ) (c : List ℤ) → start a c < 2 ^ 64) → ((q : ℕ) → values q < 2 ^ 64) →
      Exposed list f → use_total list values f.array ≢ definition_total list extents start values f.array
  told_where_exposed short bit start_fits values_fit x =
      let d : Definition = latest list f.array f.cell f.place in
      let k : ℕ = uses_after list d f.place f.array in
      let v : value_of start values d < 2 ^ 64 = value_fits list start values f.array f.place f.cell d start_fits values_fit (latest_is list f.array f.cell f.place) in
      let o : struck_value list values start f < 2 ^ 64 = xor_lt 64 _ _ v (pow_below f.bit 64 bit) in
      let e = sums_differ list extents start values f.array d f.place (struck_value list values start f) clean (flip_reads list values start f replays) in
      parts_differ _ _ k _ _ (uses_from_exposed list f x) (omega (arith, uses_after_le list f f.array)) v o (λ s. xor_moves _ _ (sym s)) e

  -- the totals of the flip's array differ exactly where it is exposed
  pub told_exactly : length list < 2 ^ 63 → f.bit < 64 → ((a : ℕ) (c : List ℤ) → start a c < 2 ^ 64) → ((q : ℕ) → values q < 2 ^ 64) →
      (use_total list values f.array ≢ definition_total list extents start values f.array) ↔ Exposed list f
  told_exactly short bit start_fits values_fit = (
    λ ne. elim (cases_lt 0 (uses_after list (latest list f.array f.cell f.place) f.place f.array)) [
      | inl l ↦ exposed_from_uses list f l
      | inr l ↦ absurd (ne (quiet_elsewhere f.array (omega arith)))
    ],
    told_where_exposed short bit start_fits values_fit,
  )
