-- A sum lies within a limit exactly where the coefficient of each variable does.
use Rattle.std.proofs.Common.{◌≡◌, ◌<◌, ◌≤◌, ◌^◌, ℕ, suc, List, [], ◌∷◌, ◌++◌, ℤ, pos, negsuc, neg_ℤ, ◌*ℤ◌, refl, sym, ap, ◌∙◌, arith, nat_eq, nat_lt, nat_le, Bool, true, false, cond, ◌&&◌}
use Rattle.std.specs.Ordering.{int_eq}
use Rattle.std.proofs.lemmas.Bool.{and_parts, and_from}
use Rattle.std.proofs.lemmas.Int.{ints}
use Rattle.acceptance.specs.Affine.{lies_in}
use Rattle.c_tree.specs.declared.affine.Affine.{Affine}
use Rattle.affine_sets.specs.Sums.{Term, coefficient_at, terms_lie_in, products_lie_in, sum_lies_in, has_variables_to, is_ordered_from}
use Rattle.affine_sets.specs.Merged.{scaled, multiple_of}
use Rattle.affine_sets.specs.Collected.{has_small_products}
use Rattle.affine_sets.proofs.Ordered.{parts}
use Rattle.affine_sets.proofs.Coefficients.{own, beside, absent}
use Rattle.affine_sets.proofs.Limits.{all_as}

pub same_test : (a b : Bool) → (a ≡ true → b ≡ true) → (b ≡ true → a ≡ true) → a ≡ b
same_test true b f g = sym (f refl)
same_test false true f g = g refl
same_test false false f g = refl

equal : (v w : ℕ) → nat_eq v w ≡ true → v ≡ w
equal v w h = grind arith

module _ (m : ℕ) where
  lies_0 : (z : ℤ) → z ≡ pos 0 → lies_in (pos m) z ≡ true
  lies_0 z e = grind (arith, ints)

  pub each_lies : (v : ℕ) (ts : List Term) → is_ordered_from v ts ≡ true → terms_lie_in (pos m) ts ≡ true → (i : ℕ) → lies_in (pos m) (coefficient_at i ts) ≡ true
  each_lies v [] o h i = lies_0 (pos 0) refl
  each_lies v (t ∷ ts) o h i =
      let k = and_parts (lies_in (pos m) t.1) (terms_lie_in (pos m) ts) h in
      let p = parts v t ts o in
      by (nat_eq t.0 i) refl k.0 (each_lies (suc t.0) ts p.rest k.1 i)
    where
      by : (b : Bool) → nat_eq t.0 i ≡ b → lies_in (pos m) t.1 ≡ true → lies_in (pos m) (coefficient_at i ts) ≡ true → lies_in (pos m) (coefficient_at i (t ∷ ts)) ≡ true
      by true e f g = ap (lies_in (pos m)) (own i v t ts o (equal t.0 i e)) ∙ f
      by false e f g = ap (lies_in (pos m)) (beside i t ts e) ∙ g

  pub all_lie : (n v : ℕ) (ts : List Term) → is_ordered_from v ts ≡ true → has_variables_to n ts ≡ true → ((i : ℕ) → 0 < i → i ≤ n → lies_in (pos m) (coefficient_at i ts) ≡ true) → terms_lie_in (pos m) ts ≡ true
  all_lie n v [] o h each = refl
  all_lie n v (t ∷ ts) o h each =
      let p = parts v t ts o in
      let k = and_parts (nat_lt 0 t.0 && nat_le t.0 n) (has_variables_to n ts) h in
      let r = and_parts (nat_lt 0 t.0) (nat_le t.0 n) k.0 in
      and_from (lies_in (pos m) t.1) (terms_lie_in (pos m) ts)
      (ap (lies_in (pos m)) (sym (own t.0 v t ts o refl)) ∙ each t.0 (low t.0 r.0) (high t.0 n r.1))
      (all_lie n (suc t.0) ts p.rest k.1 (λ i some most. by i (nat_eq t.0 i) refl p.rest (each i some most)))
    where
      low : (u : ℕ) → nat_lt 0 u ≡ true → 0 < u
      low u g = grind arith

      high : (u l : ℕ) → nat_le u l ≡ true → u ≤ l
      high u l g = grind arith

      by : (i : ℕ) (b : Bool) → nat_eq t.0 i ≡ b → is_ordered_from (suc t.0) ts ≡ true → lies_in (pos m) (coefficient_at i (t ∷ ts)) ≡ true → lies_in (pos m) (coefficient_at i ts) ≡ true
      by i true e q g = let same : t.0 ≡ i = equal t.0 i e in lies_0 (coefficient_at i ts) (absent i (suc t.0) ts (omega arith) q)
      by i false e q g = ap (lies_in (pos m)) (sym (beside i t ts e)) ∙ g

  products_same : (k : ℤ) (ts : List Term) → products_lie_in (pos m) k ts ≡ terms_lie_in (pos m) (scaled k ts)
  products_same k [] = refl
  products_same k (t ∷ ts) = by (int_eq (t.1 *ℤ k) (pos 0)) refl (products_same k ts)
    where
      by : (b : Bool) → int_eq (t.1 *ℤ k) (pos 0) ≡ b → products_lie_in (pos m) k ts ≡ terms_lie_in (pos m) (scaled k ts)
          → lies_in (pos m) (t.1 *ℤ k) && products_lie_in (pos m) k ts ≡ terms_lie_in (pos m) (cond b [] ((t.0, t.1 *ℤ k) ∷ []) ++ scaled k ts)
      by true e h = let z : t.1 *ℤ k ≡ pos 0 = grind (arith, ints) in ap (λ l. l && products_lie_in (pos m) k ts) (lies_0 (t.1 *ℤ k) z) ∙ h
      by false e h = ap (λ l. lies_in (pos m) (t.1 *ℤ k) && l) h

pub multiple_same : (k : ℤ) (a : Affine) → has_small_products k a ≡ sum_lies_in (pos (2 ^ 44)) (multiple_of k a)
multiple_same k a = ap (λ l. lies_in (pos (2 ^ 44)) (a.constant *ℤ k) && l) (products_same (2 ^ 44) k a.terms)

pub times_minus_1 : (z : ℤ) → z *ℤ negsuc 0 ≡ neg_ℤ z
times_minus_1 (pos n) = omega (arith, ints)
times_minus_1 (negsuc n) = omega (arith, ints)

minus_lies : (m : ℕ) (z : ℤ) → lies_in (pos m) z ≡ true → lies_in (pos m) (z *ℤ negsuc 0) ≡ true
minus_lies m z h = ap (lies_in (pos m)) (times_minus_1 z) ∙ by m z h
  where
    by : (m : ℕ) (z : ℤ) → lies_in (pos m) z ≡ true → lies_in (pos m) (neg_ℤ z) ≡ true
    by m z h = grind (arith, ints)

pub minus_small : (a : Affine) → sum_lies_in (pos (2 ^ 44)) a ≡ true → has_small_products (negsuc 0) a ≡ true
minus_small a h =
    let k = and_parts (lies_in (pos (2 ^ 44)) a.constant) (terms_lie_in (pos (2 ^ 44)) a.terms) h in
    and_from (lies_in (pos (2 ^ 44)) (a.constant *ℤ negsuc 0)) (products_lie_in (pos (2 ^ 44)) (negsuc 0) a.terms)
    (minus_lies (2 ^ 44) a.constant k.0)
    (all_as (λ t. lies_in (pos (2 ^ 44)) t.1) (λ t. lies_in (pos (2 ^ 44)) (t.1 *ℤ negsuc 0)) (λ t. minus_lies (2 ^ 44) t.1) a.terms k.1)
