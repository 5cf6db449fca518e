-- One more access follows the memory.
use Rattle.std.proofs.Common.{◌≡◌, ℕ, zero, suc, ◌<◌, ◌≤◌, false, cond, List, [], ◌∷◌, ◌++◌, map, length, refl, sym, ap, ◌∙◌, subst, arith, ℤ, Option, inl, inr}
use Rattle.std.proofs.lemmas.Bool.{cases_eq}
use Rattle.std.proofs.lemmas.List.{length_push, get_or_append_left, get_or_push, map-append, length-map}
use Rattle.std.specs.Prelude.{slice_index}
use Rattle.c_tree.specs.Arrays.{Memory, stored}
use Rattle.c_tree.specs.Accesses.{Access, at, nowhere, Within}
use Rattle.c_tree.specs.Fault.{Upset, disturbed}
use Rattle.c_tree.specs.Run.{Event}
use Rattle.balance_laws.specs.Replay.{after_access, left_after}
use Rattle.run_laws.specs.Logs.{accesses_in, values_in}
use Rattle.instrumentation_laws.specs.RunningTotals.{Follows}

-- what one access leaves of a memory
abbrev access_by : Access → ℕ → Memory → Memory
access_by x v m = cond x.writes (stored m x.array x.cell v) m

left_after_same : (l k : List Access) (v w : ℕ → ℕ) (f : Option Upset) (start : Memory) (n : ℕ) → ((p : ℕ) → p < n → (at l p ≡ at k p) × (v p ≡ w p)) → left_after l v f start n ≡ left_after k w f start n
unfolding left_after after_access
left_after_same l k v w f start zero h = refl
left_after_same l k v w f start (suc n) h =
    let r = left_after_same l k v w f start n (λ p b. h p (omega arith)) in
    let e = h n (omega arith) in
    ap (λ x. access_by x (v n) (disturbed f n (left_after l v f start n))) e.0 ∙
    ap (λ x. access_by (at k n) x (disturbed f n (left_after l v f start n))) e.1 ∙
    ap (λ m. access_by (at k n) (w n) (disturbed f n m)) r

left_after_more : (l : List Access) (v : ℕ → ℕ) (f : Option Upset) (start : Memory) (n : ℕ) → left_after l v f start (suc n) ≡ access_by (at l n) (v n) (disturbed f n (left_after l v f start n))
unfolding left_after after_access
left_after_more l v f start n = refl

left_after_none : (l : List Access) (v : ℕ → ℕ) (f : Option Upset) (start : Memory) → left_after l v f start 0 ≡ start
unfolding left_after
left_after_none l v f start = refl

pub follows_start : (f : Option Upset) (inputs m : Memory) (extents : ℕ → List ℤ) → m ≡ inputs → Follows f inputs extents [] m
follows_start f inputs m extents e = record { memory = e ∙ sym (left_after_none [] (values_in []) f inputs); replays = λ q l w. absurd (omega arith); clean = λ q l. absurd (omega arith) }

module _ (f : Option Upset) (inputs : Memory) (extents : ℕ → List ℤ) (xs : List Event) (m : Memory) (good : Follows f inputs extents xs m) (y : Event) (fits : Within (extents y.access.array) y.access.cell)
    (agrees : y.access.writes ≡ false → y.value ≡ disturbed f (length xs) m y.access.array y.access.cell) where
  abbrev n : ℕ
  n = length xs

  abbrev x : Access
  x = y.access

  abbrev old : List Access
  old = accesses_in xs

  abbrev made : List Access
  made = accesses_in (xs ++ y ∷ [])

  abbrev values : ℕ → ℕ
  values = values_in (xs ++ y ∷ [])

  made_is : made ≡ old ++ x ∷ []
  made_is = map-append (λ (e : Event). e.access) xs (y ∷ [])

  values_are : (p : ℕ) → values p ≡ slice_index (map (λ (e : Event). e.value) xs ++ y.value ∷ []) p
  values_are p = ap (λ (l : List ℕ). slice_index l p) (map-append (λ (e : Event). e.value) xs (y ∷ []))

  old_long : length old ≡ n
  old_long = length-map xs (λ (e : Event). e.access)

  at_old : (p : ℕ) → p < n → at made p ≡ at old p
  at_old p l = ap (λ l. at l p) made_is ∙ get_or_append_left old (x ∷ []) nowhere p (let e = old_long in omega arith)

  at_new : at made n ≡ x
  at_new = ap (λ l. at l n) made_is ∙ get_or_push old x nowhere n old_long

  value_old : (p : ℕ) → p < n → values p ≡ values_in xs p
  value_old p l = values_are p ∙ get_or_append_left (map (λ (e : Event). e.value) xs) (y.value ∷ []) 0 p (let e = length-map xs (λ (e : Event). e.value) in omega arith)

  value_new : values n ≡ y.value
  value_new = values_are n ∙ get_or_push (map (λ (e : Event). e.value) xs) y.value 0 n (length-map xs (λ (e : Event). e.value))

  memory_old : (q : ℕ) → q ≤ n → left_after made values f inputs q ≡ left_after old (values_in xs) f inputs q
  memory_old q l = left_after_same made old values (values_in xs) f inputs q (λ p b. (at_old p (omega arith), value_old p (omega arith)))

  found_is : disturbed f n (left_after made values f inputs n) ≡ disturbed f n m
  found_is = ap (disturbed f n) (memory_old n (omega arith) ∙ sym good.memory)

  long : length (xs ++ y ∷ []) ≡ suc n
  long = let b = length_push xs y in omega arith

  made_long : length made ≡ suc n
  made_long = length-map (xs ++ y ∷ []) (λ (e : Event). e.access) ∙ long

  memory_next : access_by x y.value (disturbed f n m) ≡ left_after made values f inputs (length (xs ++ y ∷ []))
  memory_next = sym (
      ap (λ k. left_after made values f inputs k) long ∙
      left_after_more made values f inputs n ∙
      ap (λ y. access_by y (values n) (disturbed f n (left_after made values f inputs n))) at_new ∙
      ap (λ k. access_by x k (disturbed f n (left_after made values f inputs n))) value_new ∙
      ap (λ m. access_by x y.value m) found_is)

  abbrev Claim : ℕ → Type 0
  Claim q = values q ≡ disturbed f q (left_after made values f inputs q) (at made q).array (at made q).cell

  claim_new : (at made n).writes ≡ false → Claim n
  claim_new e =
      value_new ∙ agrees (sym (ap (λ (y : Access). y.writes) at_new) ∙ e) ∙
      sym (ap (λ (m : Memory). m x.array x.cell) found_is) ∙
      sym (ap (λ (y : Access). disturbed f n (left_after made values f inputs n) y.array y.cell) at_new)

  claim_old : (q : ℕ) → q < n → (at made q).writes ≡ false → Claim q
  claim_old q l e =
      value_old q l ∙ good.replays q (let e = old_long in omega arith) (sym (ap (λ (y : Access). y.writes) (at_old q l)) ∙ e) ∙
      ap (λ m. disturbed f q m (at old q).array (at old q).cell) (sym (memory_old q (omega arith))) ∙
      ap (λ (y : Access). disturbed f q (left_after made values f inputs q) y.array y.cell) (sym (at_old q l))

  pub one_more : Follows f inputs extents (xs ++ y ∷ []) (cond y.access.writes (stored (disturbed f (length xs) m) y.access.array y.access.cell y.value) (disturbed f (length xs) m))
  one_more = record {
    memory = memory_next;
    replays = λ q l e. elim (cases_eq q n) [
      | inl s ↦ subst (λ k. (at made k).writes ≡ false → Claim k) (sym s) claim_new e
      | inr ne ↦ claim_old q (let b = made_long in omega arith) e
    ];
    clean = λ q l. elim (cases_eq q n) [
      | inl s ↦ subst (λ k. Within (extents (at made k).array) (at made k).cell) (sym s) (subst (λ (z : Access). Within (extents z.array) z.cell) (sym at_new) fits)
      | inr ne ↦ (let b : q < n = (let b = made_long in omega arith) in subst (λ (z : Access). Within (extents z.array) z.cell) (sym (at_old q b)) (good.clean q (let e = old_long in omega arith)))
    ];
  }
