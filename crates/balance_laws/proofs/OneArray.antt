-- What is said of an array depends on its own accesses alone.
use Rattle.std.proofs.Common.{ℤ, ◌≡◌, ◌≢◌, ℕ, zero, suc, ◌*◌, ◌%◌, ◌^◌, ◌<◌, true, false, not, ◌&&◌, cond, eqb, List, refl, sym, ap, ◌∙◌, arith, inl, inr, length, subst}
use Rattle.std.proofs.lemmas.Bool.{cases_eq, cases_Bool, and_parts, and_left, and_right, ne_eqb, cond-false}
use Rattle.c_tree.specs.Accesses.{Access, at, is_of, Definition, same_definition, latest, last_writer, reads_from, uses, sum_below}
use Rattle.c_tree.specs.Accesses.Definition.{Initial, Written}
use Rattle.balance_laws.specs.Totals.{use_sum, definition_sum, use_total, definition_total}
use Rattle.balance_laws.specs.Laws.{SameFor, FlipIsToldOver, LastWriterIsLast}
use Rattle.balance_laws.proofs.Sums.{sum_below_same, sum_cells_same}
use Rattle.balance_laws.proofs.Latest.{is_of-true, writes_at, IsLatest, latest_is, latest_written, latest_kept, latest_start}
use Rattle.balance_laws.proofs.Latest.IsLatest.{at_first, by_write}
use Rattle.balance_laws.proofs.Flips.{told_exactly, no_write}
use Rattle.c_tree.specs.Fault.{Exposed, Upset}
use Rattle.c_tree.specs.Arrays.{Memory}

same_for_turned : (a : ℕ) (l k : List Access) → SameFor a l k → SameFor a k l
same_for_turned a l k s = record {
  long = sym s.long;
  each = λ q h. sym (s.each q (elim h [ inl x ↦ inr x | inr x ↦ inl x ]));
}

module _ (a : ℕ) (l k : List Access) (same : SameFor a l k) where
  -- a test that asks for the array
  array_test : (q : ℕ) → eqb (at l q).array a ≡ eqb (at k q).array a
  array_test q =
      elim (cases_eq (at l q).array a) [
        | inl e ↦ ap (λ x. eqb x.array a) (same.each q (inl e))
        | inr ne ↦
            elim (cases_eq (at k q).array a) [
              | inl e ↦ ap (λ x. eqb x.array a) (same.each q (inr e))
              | inr nf ↦ ne_eqb _ _ ne ∙ sym (ne_eqb _ _ nf)
            ]
      ]

  -- a term that is 0 for other arrays
  term_same : (F : Access → ℕ) → ((x : Access) → x.array ≢ a → F x ≡ 0) → (q : ℕ) → F (at l q) ≡ F (at k q)
  term_same F none q =
      elim (cases_eq (at l q).array a) [
        | inl e ↦ ap F (same.each q (inl e))
        | inr ne ↦
            elim (cases_eq (at k q).array a) [
              | inl e ↦ ap F (same.each q (inr e))
              | inr nf ↦ none _ ne ∙ sym (none _ nf)
            ]
      ]

  writes_same : (c : List ℤ) (p : ℕ) → writes_at l p a c ≡ writes_at k p a c
  writes_same c p =
      elim (cases_eq (at l p).array a) [
        | inl e ↦ ap (λ x. x.writes && is_of x a c) (same.each p (inl e))
        | inr ne ↦
            elim (cases_eq (at k p).array a) [
              | inl e ↦ ap (λ x. x.writes && is_of x a c) (same.each p (inr e))
              | inr nf ↦ and_right _ _ (and_left _ _ (ne_eqb _ _ ne)) ∙ sym (and_right _ _ (and_left _ _ (ne_eqb _ _ nf)))
            ]
      ]

  pub latest_same : (c : List ℤ) (n : ℕ) → latest l a c n ≡ latest k a c n
  latest_same c zero = latest_start l a c ∙ sym (latest_start k a c)
  latest_same c (suc n) =
      elim (cases_Bool (writes_at l n a c)) [
        | inl w ↦ latest_written l a c n w ∙ sym (latest_written k a c n (sym (writes_same c n) ∙ w))
        | inr w ↦ latest_kept l a c n w ∙ latest_same c n ∙ sym (latest_kept k a c n (sym (writes_same c n) ∙ w))
      ]

  -- a definition of the array
  abbrev OfArray : Definition → Type 0
  OfArray (Initial b c) = b ≡ a
  OfArray (Written p) = (at l p).array ≡ a

  -- a read of another array doesn't use it
  not_of : (list : List Access) → ((p : ℕ) → (at l p).array ≡ a → (at list p).array ≡ a) → (d : Definition) → OfArray d → (b n : ℕ) (c : List ℤ) (e : Definition) → IsLatest list b c n e → b ≢ a → same_definition e d ≡ false
  not_of list keep (Initial x y) o b n c e (at_first h) ne = rw h (and_left _ _ (ne_eqb b x (λ s. ne (s ∙ o))))
  not_of list keep (Initial x y) o b n c e (by_write p q w h) ne = rw h refl
  not_of list keep (Written i) o b n c e (at_first h) ne = rw h refl
  not_of list keep (Written i) o b n c e (by_write p q w h) ne =
      rw h (ne_eqb p i (λ s. ne (sym (is_of-true (at list p) b c (and_parts _ _ w).1).0 ∙ ap (λ z. (at list z).array) s ∙ keep i o)))

  uses_one : (d : Definition) → OfArray d → (q : ℕ) → reads_from l d q ≡ reads_from k d q
  uses_one d o q =
      elim (cases_eq (at l q).array a) [
        | inl e ↦ here e (same.each q (inl e))
        | inr ne ↦
            elim (cases_eq (at k q).array a) [
              | inl e ↦ here (ap (λ x. x.array) (same.each q (inr e)) ∙ e) (same.each q (inr e))
              | inr nf ↦
                  and_right _ _ (not_of l (λ p e. e) d o (at l q).array q (at l q).cell _ (latest_is l (at l q).array (at l q).cell q) ne) ∙
                  sym (and_right _ _ (not_of k (λ p e. sym (ap (λ x. x.array) (same.each p (inl e))) ∙ e) d o (at k q).array q (at k q).cell _ (latest_is k (at k q).array (at k q).cell q) nf))
            ]
      ]
    where
      here : (at l q).array ≡ a → at l q ≡ at k q → reads_from l d q ≡ reads_from k d q
      here e s =
          let x : latest l (at l q).array (at l q).cell q ≡ latest k (at l q).array (at l q).cell q =
          subst (λ b. latest l b (at l q).cell q ≡ latest k b (at l q).cell q) (sym e) (latest_same (at l q).cell q) in
          ap (λ y. not (at l q).writes && same_definition y d) x ∙ ap (λ y. not y.writes && same_definition (latest k y.array y.cell q) d) s

  pub uses_same : (d : Definition) → OfArray d → uses l d ≡ uses k d
  unfolding uses
  uses_same d o =
      sum_below_same _ _ (length l) (λ q b. ap (λ t. cond t 1 0) (uses_one d o q)) ∙
      ap (sum_below (λ q. cond (reads_from k d q) 1 0)) same.long

  pub use_sum_same : (values : ℕ → ℕ) → use_sum l values a ≡ use_sum k values a
  unfolding use_sum
  use_sum_same values =
      sum_below_same _ _ (length l) (λ q b. term_same (λ x. cond (not x.writes && eqb x.array a) (values q) 0) (λ x ne. cond-false _ _ _ (and_right _ _ (ne_eqb _ _ ne))) q) ∙
      ap (sum_below (λ q. cond (not (at k q).writes && eqb (at k q).array a) (values q) 0)) same.long

  pub definition_sum_same : (extents : ℕ → List ℤ) (inputs : Memory) (values : ℕ → ℕ) → definition_sum l extents inputs values a ≡ definition_sum k extents inputs values a
  unfolding definition_sum
  definition_sum_same extents inputs values =
      let cells = sum_cells_same (extents a) (λ c. inputs a c * uses l (Initial a c)) (λ c. inputs a c * uses k (Initial a c)) (λ c. ap (λ u. inputs a c * u) (uses_same (Initial a c) refl)) in
      let old : ℕ → ℕ = λ p. cond ((at l p).writes && eqb (at l p).array a) (values p * uses l (Written p)) 0 in
      let new : ℕ → ℕ = λ p. cond ((at k p).writes && eqb (at k p).array a) (values p * uses k (Written p)) 0 in
      let writes : sum_below old (length l) ≡ sum_below new (length k) =
      sum_below_same old new (length l) (λ p b. one p) ∙ ap (sum_below new) same.long in
      omega arith
    where
      one : (p : ℕ) → cond ((at l p).writes && eqb (at l p).array a) (values p * uses l (Written p)) 0 ≡ cond ((at k p).writes && eqb (at k p).array a) (values p * uses k (Written p)) 0
      one p =
          elim (cases_eq (at l p).array a) [
            | inl e ↦
                ap (λ u. cond ((at l p).writes && eqb (at l p).array a) (values p * u) 0) (uses_same (Written p) e) ∙
                ap (λ x. cond (x.writes && eqb x.array a) (values p * uses k (Written p)) 0) (same.each p (inl e))
            | inr ne ↦
                (let f : eqb (at l p).array a ≡ false = ne_eqb _ _ ne in
                let g : eqb (at k p).array a ≡ false = sym (array_test p) ∙ f in
                cond-false ((at l p).writes && eqb (at l p).array a) (values p * uses l (Written p)) 0 (and_right (at l p).writes (eqb (at l p).array a) f) ∙
                sym (cond-false ((at k p).writes && eqb (at k p).array a) (values p * uses k (Written p)) 0 (and_right (at k p).writes (eqb (at k p).array a) g)))
          ]

  is_of_same : (c : List ℤ) (p : ℕ) → is_of (at l p) a c ≡ is_of (at k p) a c
  is_of_same c p =
      elim (cases_eq (at l p).array a) [
        | inl e ↦ ap (λ x. is_of x a c) (same.each p (inl e))
        | inr ne ↦ and_left _ _ (ne_eqb _ _ ne) ∙ sym (and_left _ _ (sym (array_test p) ∙ ne_eqb _ _ ne))
      ]

pub exposed_same : (l k : List Access) (f : Upset) → SameFor f.array l k → Exposed l f → Exposed k f
exposed_same l k f same x =
    let e : (at l x.next).array ≡ f.array = (is_of-true (at l x.next) f.array f.cell x.of_cell).0 in
    record {
      next = x.next;
      later = x.later;
      exists = (let s = same.long in let b = x.exists in omega arith);
      of_cell = sym (is_of_same f.array l k same f.cell x.next) ∙ x.of_cell;
      reads = sym (ap (λ y. y.writes) (same.each x.next (inl e))) ∙ x.reads;
      first = λ p b c. sym (is_of_same f.array l k same f.cell p) ∙ x.first p b c;
    }

pub told_over : FlipIsToldOver
told_over list made extents inputs values f same clean short bit inputs_fit values_fit replays =
    let t = told_exactly made extents inputs values f clean replays short bit inputs_fit values_fit in
    let u : use_total list values f.array ≡ use_total made values f.array = ap (λ z. z % 2 ^ 128) (use_sum_same f.array list made same values) in
    let d : definition_total list extents inputs values f.array ≡ definition_total made extents inputs values f.array =
    ap (λ z. z % 2 ^ 128) (definition_sum_same f.array list made same extents inputs values) in (
      λ ne. exposed_same made list f (same_for_turned f.array list made same) (t.0 (λ e. ne (u ∙ e ∙ sym d))),
      λ x e. t.1 (exposed_same list made f same x) (sym u ∙ e ∙ d),
    )

-- the last writer is the greatest
last_is : (list : List Access) (a : ℕ) (c : List ℤ) (q : ℕ) (d : Definition) → latest list a c q ≡ d → IsLatest list a c q d →
    ((p : ℕ) → d ≡ Written p → (p < q) × (writes_at list p a c ≡ true) × ((i : ℕ) → p < i → i < q → writes_at list i a c ≡ false)) ×
    ((b : ℕ) (e : List ℤ) → d ≡ Initial b e → (b ≡ a) × (e ≡ c) × ((i : ℕ) → i < q → writes_at list i a c ≡ false))
last_is list a c q d is (at_first h) = (
  λ p e. absurd cc,
  λ b e g. (cc, cc, λ i l. no_write list a c 0 q i (is ∙ h ∙ sym (latest_start list a c)) (omega arith) l),
)
last_is list a c q d is (by_write k l w h) = (
  λ p e.
      let s : k ≡ p = cc in (
        (omega arith),
        subst (λ j. writes_at list j a c ≡ true) s w,
        λ i b g. no_write list a c (suc k) q i (is ∙ h ∙ sym (latest_written list a c k w)) (omega arith) g,
      ),
  λ b e g. absurd cc,
)

pub last_writer_is : LastWriterIsLast
last_writer_is list q =
    let r = last_is list (at list q).array (at list q).cell q (last_writer list q) refl (latest_is list (at list q).array (at list q).cell q) in
    record {
      written = λ p e. let x : (p < q) × (writes_at list p (at list q).array (at list q).cell ≡ true) × ((i : ℕ) → p < i → i < q → writes_at list i (at list q).array (at list q).cell ≡ false) = r.0 p e in
          (x.0, (and_parts _ _ x.1).0, (and_parts _ _ x.1).1, x.2);
      initial = r.1;
    }
