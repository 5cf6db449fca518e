-- Lists filtered by two tests, and tests of all or of any by how many there are.
use Rattle.std.proofs.Common.{◌≡◌, ℕ, suc, ◌<◌, ◌≤◌, Bool, true, false, not, cond, ◌&&◌, ◌||◌, List, [], ◌∷◌, length, filter, refl, sym, ap, ◌∙◌, nat_lt, nat_le, min, arith, inl, inr, ◌⊎◌, lt-ltb, le-ltb}
use Rattle.std.proofs.lemmas.Bool.{cases_lt, le-leb, lt-leb}
use Rattle.std.specs.List.{list_all, list_any}

module _ {X : Type 0} where
  pub filter_both : (p q : X → Bool) (xs : List X) → filter q (filter p xs) ≡ filter (λ x. p x && q x) xs
  filter_both p q [] = refl
  filter_both p q (x ∷ xs) = by (p x) (filter_both p q xs) where
    by : (b : Bool) → filter q (filter p xs) ≡ filter (λ x. p x && q x) xs → filter q (cond b (x ∷ filter p xs) (filter p xs)) ≡ cond (b && q x) (x ∷ filter (λ x. p x && q x) xs) (filter (λ x. p x && q x) xs)
    by true rest = ap (λ ys. cond (q x) (x ∷ ys) ys) rest
    by false rest = rest

  length_of : (b : Bool) (x : X) (xs : List X) → length (cond b (x ∷ xs) xs) ≡ cond b (suc (length xs)) (length xs)
  length_of true x xs = refl
  length_of false x xs = refl

  pub any_counted : (p : X → Bool) (xs : List X) → list_any p xs ≡ nat_lt 0 (length (filter p xs))
  any_counted p [] = refl
  any_counted p (x ∷ xs) = by (p x) (any_counted p xs) where
    by : (b : Bool) → list_any p xs ≡ nat_lt 0 (length (filter p xs)) → (b || list_any p xs) ≡ nat_lt 0 (length (cond b (x ∷ filter p xs) (filter p xs)))
    by true rest = sym (lt-ltb 0 (suc (length (filter p xs))) (omega arith))
    by false rest = rest

  pub all_counted : (p : X → Bool) (xs : List X) → list_all p xs ≡ nat_le (length (filter (λ x. not (p x)) xs)) 0
  all_counted p [] = refl
  all_counted p (x ∷ xs) = by (p x) (all_counted p xs) where
    by : (b : Bool) → list_all p xs ≡ nat_le (length (filter (λ x. not (p x)) xs)) 0 → (b && list_all p xs) ≡ nat_le (length (cond (not b) (x ∷ filter (λ x. not (p x)) xs) (filter (λ x. not (p x)) xs))) 0
    by true rest = rest
    by false rest = sym (lt-leb (suc (length (filter (λ x. not (p x)) xs))) 0 (omega arith))

-- ---- numbers up to a limit

pub some_up_to : (r n : ℕ) → r ≡ min n 4294967295 → nat_lt 0 r ≡ nat_lt 0 n
some_up_to r n h = by (cases_lt 0 n) where
  by : (0 < n) ⊎ (n ≤ 0) → nat_lt 0 r ≡ nat_lt 0 n
  by (inl l) = lt-ltb 0 r (omega arith) ∙ sym (lt-ltb 0 n l)
  by (inr l) = le-ltb 0 r (omega arith) ∙ sym (le-ltb 0 n l)

pub most_up_to : (r n m : ℕ) → m < 256 → r ≡ min n 4294967295 → nat_le r m ≡ nat_le n m
most_up_to r n m small h = by (cases_lt m n) where
  by : (m < n) ⊎ (n ≤ m) → nat_le r m ≡ nat_le n m
  by (inl l) = lt-leb r m (omega arith) ∙ sym (lt-leb n m l)
  by (inr l) = le-leb r m (omega arith) ∙ sym (le-leb n m l)
