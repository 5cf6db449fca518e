-- A flip that isn't exposed.
use Rattle.std.proofs.Common.{nat_le, nat_lt, ◌≡◌, ℕ, ◌^◌, ◌<◌, ◌≤◌, true, not, ◌&&◌, cond, eqb, List, sym, ap, ◌∙◌, arith, inl, inr, eq-eqb, length, None}
use Rattle.std.proofs.lemmas.Bool.{cases_Bool, and_parts, and_from, cond-true, cond-false}
use Rattle.std.specs.Prelude.{bit_xor}
use Rattle.c_tree.specs.Accesses.{Access, at, latest, last_writer, reads_from, same_definition, sum_below}
use Rattle.balance_laws.specs.Totals.{value_of, reads_after, uses_after}
use Rattle.balance_laws.specs.Replay.{left_after}
use Rattle.balance_laws.specs.Laws.{HiddenFlip, FlippedMemory}
use Rattle.balance_laws.proofs.Sums.{le_sum_below}
use Rattle.balance_laws.proofs.Latest.{same_definition-true}
use Rattle.balance_laws.proofs.Replayed.{owner, struck, plain_memory, flip_memory, flip_reads}
use Rattle.balance_laws.proofs.Flips.{exposed_from_uses}
use Rattle.c_tree.specs.Fault.{Exposed, Upset, disturbed}

-- a read of the struck definition at the place or later exposes it
hit_exposes : (list : List Access) (f : Upset) (q : ℕ) → q < length list → reads_after list (latest list f.array f.cell f.place) f.place q ≡ true → Exposed list f
unfolding uses_after
hit_exposes list f q l h =
    let d = latest list f.array f.cell f.place in
    let p : (nat_le f.place q ≡ true) × (reads_from list d q ≡ true) = and_parts _ _ h in
    let r : (not (at list q).writes ≡ true) × (same_definition (last_writer list q) d ≡ true) = and_parts _ _ p.1 in
    let o : ((at list q).array ≡ f.array) × ((at list q).cell ≡ f.cell) = owner list (at list q).array f.array q f.place (at list q).cell f.cell r.1 in
    let one : ℕ → ℕ = λ i. cond (reads_after list d f.place i && eqb (at list i).array f.array) 1 0 in
    let e : one q ≡ 1 = cond-true _ 1 0 (and_from _ _ h (eq-eqb _ _ o.0)) in
    let s : one q ≤ sum_below one (length list) = le_sum_below one q (length list) l in
    exposed_from_uses list f (let u : 0 < uses_after list d f.place f.array = omega arith in u)

pub hidden_flip : HiddenFlip
unfolding disturbed
hidden_flip list start values f hidden replays =
    λ q l e.
    elim (cases_Bool (reads_after list (struck list values start f) f.place q)) [
      | inl h ↦ absurd (hidden (hit_exposes list f q l h))
      | inr h ↦ flip_reads list values start f replays q l e ∙ cond-false _ _ _ h ∙ sym (plain_memory list values start q (at list q).array (at list q).cell)
    ]

pub flipped_memory : FlippedMemory
flipped_memory list start values f n a c =
    flip_memory list values start f n a c ∙
    elim (cases_Bool (nat_lt f.place n && same_definition (latest list a c n) (latest list f.array f.cell f.place))) [
      | inl t ↦
          (let d : latest list a c n ≡ latest list f.array f.cell f.place = same_definition-true _ _ (and_parts _ _ t).1 in
          let v : value_of start values (latest list f.array f.cell f.place) ≡ left_after list values None start n a c = sym (ap (value_of start values) d) ∙ sym (plain_memory list values start n a c) in
          cond-true _ _ _ t ∙ ap (λ x. bit_xor x (2 ^ f.bit)) v ∙ sym (cond-true _ _ _ t))
      | inr t ↦ cond-false _ _ _ t ∙ sym (plain_memory list values start n a c) ∙ sym (cond-false _ _ _ t)
    ]
