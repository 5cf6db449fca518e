-- What a fault leaves of a memory at the end of a list: nothing where its cell is written at the place or later, and one bit inverted else.
use Rattle.std.proofs.Common.{◌≡◌, ℕ, suc, zero, ◌^◌, ◌<◌, ◌≤◌, Bool, true, false, cond, ◌&&◌, nat_le, eqb, List, [], ◌∷◌, map, length, refl, sym, ap, ◌∙◌, subst, arith, ℤ, Some, None, inl, inr, eq-eqb}
use Rattle.std.proofs.lemmas.Bool.{cases_Bool, cases_lt, cases_eq, and_parts, and_from, eqb-true, cond-true, cond-false, false_from_ne_true, true≢false, le-leb, lt-ltb, lt-leb, le-ltb}
use Rattle.std.specs.Prelude.{bit_xor}
use Rattle.c_tree.specs.Arrays.{Array, Memory, all_cells, same_cell, words_from}
use Rattle.c_tree.specs.Accesses.{Access, latest, same_definition}
use Rattle.c_tree.specs.Fault.{Upset, inverted}
use Rattle.balance_laws.specs.Replay.{left_after}
use Rattle.balance_laws.specs.Laws.{FlippedMemory}
use Rattle.balance_laws.proofs.Latest.{writes_at, latest_kept, same_definition-true, same_definition_refl}
use Rattle.cell_laws.proofs.SameCell.{same_cell_refl, same_cell-true}
use Rattle.balance_laws.proofs.Replayed.{owner}
use Rattle.balance_laws.proofs.Flips.{no_write}
use Rattle.flip_laws.specs.FaultyRuns.{IsOverwritten}

-- where no write of a cell stands between, its latest definition stays
latest_unwritten : (list : List Access) (a : ℕ) (c : List ℤ) (m q : ℕ) → m ≤ q → ((p : ℕ) → m ≤ p → p < q → writes_at list p a c ≡ false) → latest list a c q ≡ latest list a c m
latest_unwritten list a c m zero l h = ap (latest list a c) (omega arith)
latest_unwritten list a c m (suc q) l h = elim (cases_eq m (suc q)) [
  | inl e ↦ ap (latest list a c) (sym e)
  | inr ne ↦ latest_kept list a c q (h q (omega arith) (omega arith)) ∙ latest_unwritten list a c m q (omega arith) (λ p x y. h p x (omega arith))
]

-- memories that are the same in each cell have the same words
pub same_words : (m n : Memory) (k : ℕ) (arrays : List Array) → ((a : ℕ) (c : List ℤ) → m a c ≡ n a c) → words_from m k arrays ≡ words_from n k arrays
same_words m n k [] h = refl
same_words m n k (x ∷ more) h = ap (λ r. r ∷ words_from m (suc k) more) (same_row (all_cells x.extents)) ∙ ap (λ rs. map (n k) (all_cells x.extents) ∷ rs) (same_words m n (suc k) more h)
  where
    same_row : (cs : List (List ℤ)) → map (m k) cs ≡ map (n k) cs
    same_row [] = refl
    same_row (c ∷ cs) = ap (λ v. v ∷ map (m k) cs) (h k c) ∙ ap (λ vs. n k c ∷ vs) (same_row cs)

module _ (law : FlippedMemory) (list : List Access) (start : Memory) (values : ℕ → ℕ) (f : Upset) where
  abbrev n : ℕ
  n = length list

  -- what is left with the fault and without it
  abbrev faulted : Memory
  faulted = left_after list values (Some f) start n

  abbrev calm : Memory
  calm = left_after list values None start n

  -- with the fault at the end, where no access has its number
  abbrev pub at_end : Memory
  at_end = cond (nat_le n f.place) (inverted f faulted) faulted

  abbrev stands : ℕ → List ℤ → Bool
  stands a c = same_definition (latest list a c n) (latest list f.array f.cell f.place)

  is_the_cell : (a : ℕ) (c : List ℤ) → stands a c ≡ true → (eqb f.array a && same_cell f.cell c) ≡ true
  is_the_cell a c h = let o = owner list a f.array n f.place c f.cell h in and_from _ _ (eq-eqb _ _ (sym o.0)) (rw o.1 (same_cell_refl f.cell))

  -- in time
  faulted_where : f.place < n → (a : ℕ) (c : List ℤ) → faulted a c ≡ cond (stands a c) (bit_xor (calm a c) (2 ^ f.bit)) (calm a c)
  faulted_where l a c = law list start values f n a c ∙ ap (λ t. cond (t && stands a c) (bit_xor (calm a c) (2 ^ f.bit)) (calm a c)) (lt-ltb f.place n l)

  -- too late for an access
  faulted_late : n ≤ f.place → (a : ℕ) (c : List ℤ) → faulted a c ≡ calm a c
  faulted_late l a c = law list start values f n a c ∙ ap (λ t. cond (t && stands a c) (bit_xor (calm a c) (2 ^ f.bit)) (calm a c)) (le-ltb f.place n l)

  at_end_in_time : f.place < n → (a : ℕ) (c : List ℤ) → at_end a c ≡ faulted a c
  at_end_in_time l a c = ap (λ t. cond t (inverted f faulted) faulted a c) (lt-leb n f.place l)

  at_end_late : n ≤ f.place → (a : ℕ) (c : List ℤ) → at_end a c ≡ inverted f calm a c
  at_end_late l a c =
      ap (λ t. cond t (inverted f faulted) faulted a c) (le-leb n f.place l) ∙
      ap (λ v. cond (eqb f.array a && same_cell f.cell c) (bit_xor v (2 ^ f.bit)) (faulted a c)) (faulted_late l f.array f.cell) ∙
      ap (λ v. cond (eqb f.array a && same_cell f.cell c) (bit_xor (calm f.array f.cell) (2 ^ f.bit)) v) (faulted_late l a c)

  pub overwritten : IsOverwritten list f → (a : ℕ) (c : List ℤ) → at_end a c ≡ calm a c
  overwritten w a c =
      let later : f.place ≤ w.next = w.later in
      let exists : w.next < n = w.exists in
      let gone : stands a c ≡ false = false_from_ne_true _ (λ h.
      let o = owner list a f.array n f.place c f.cell h in
      let stays : latest list f.array f.cell n ≡ latest list f.array f.cell f.place = sym (ap (λ x. latest list x c n) o.0 ∙ ap (λ y. latest list f.array y n) o.1) ∙ same_definition-true _ _ h in
      true≢false (sym (and_from _ _ w.writes w.of_cell) ∙ no_write list f.array f.cell f.place n w.next stays later exists)) in
      at_end_in_time (omega arith) a c ∙ faulted_where (omega arith) a c ∙ cond-false _ _ _ gone

  kept_in_time : ¬ IsOverwritten list f → f.place < n → (a : ℕ) (c : List ℤ) → at_end a c ≡ inverted f calm a c
  kept_in_time none l a c =
      let stays : latest list f.array f.cell n ≡ latest list f.array f.cell f.place = latest_unwritten list f.array f.cell f.place n (omega arith)
      (λ p x y. false_from_ne_true _ (λ h. let t = and_parts _ _ h in none (record { next = p; later = x; exists = y; of_cell = t.1; writes = t.0 }))) in
      at_end_in_time l a c ∙ faulted_where l a c ∙ elim (cases_Bool (eqb f.array a && same_cell f.cell c)) [
        | inl t ↦ (
            let p = and_parts _ _ t in
            let ea : f.array ≡ a = eqb-true _ _ p.0 in
            let ec : f.cell ≡ c = same_cell-true _ _ p.1 in
            let here : latest list a c n ≡ latest list f.array f.cell f.place = sym (ap (λ x. latest list x f.cell n) ea ∙ ap (λ y. latest list a y n) ec) ∙ stays in
            let yes_stands : stands a c ≡ true = subst (λ d. same_definition d (latest list f.array f.cell f.place) ≡ true) (sym here) (same_definition_refl (latest list f.array f.cell f.place)) in
            cond-true _ _ _ yes_stands ∙ sym (cond-true _ _ _ t ∙ ap (λ x. bit_xor (calm x f.cell) (2 ^ f.bit)) ea ∙ ap (λ y. bit_xor (calm a y) (2 ^ f.bit)) ec))
        | inr t ↦ cond-false _ _ _ (false_from_ne_true _ (λ h. true≢false (sym (is_the_cell a c h) ∙ t))) ∙ sym (cond-false _ _ _ t)
      ]

  pub kept : ¬ IsOverwritten list f → (a : ℕ) (c : List ℤ) → at_end a c ≡ inverted f calm a c
  kept none a c = elim (cases_lt f.place n) [
    | inl l ↦ kept_in_time none l a c
    | inr l ↦ at_end_late (omega arith) a c
  ]
