-- The scaled list has the coefficients, times the factor.
use Rattle.std.proofs.Common.{◌≡◌, ℕ, suc, ◌+◌, ◌*◌, List, [], ◌∷◌, ◌++◌, ℤ, pos, negsuc, ◌+ℤ◌, ◌*ℤ◌, refl, sym, ap, ◌∙◌, arith, nat_eq, nat_lt, nat_le, Bool, true, false, cond, ◌&&◌}
use Rattle.std.specs.List.{list_all}
use Rattle.std.specs.Ordering.{int_eq}
use Rattle.std.proofs.lemmas.Bool.{and_parts, and_from}
use Rattle.std.proofs.lemmas.Int.{ints}
use borrow.Author.Differences.{up, down}
use Rattle.acceptance.specs.Affine.{lies_in}
use Rattle.c_tree.specs.declared.affine.Affine.{Affine}
use Rattle.affine_sets.specs.Sums.{Term, part_at, coefficient_at, terms_lie_in, products_lie_in, sum_lies_in, has_variables_to}
use Rattle.affine_sets.specs.Merged.{kept, scaled, multiple_of}
use Rattle.affine_sets.proofs.MergedLaws.{kept_coefficient}

split : (a b : ℤ) → up (a +ℤ b) + down a + down b ≡ down (a +ℤ b) + up a + up b
split a b = omega (arith, ints)

pub add_times : (a b k : ℤ) → (a +ℤ b) *ℤ k ≡ a *ℤ k +ℤ b *ℤ k
add_times a b (pos n) = let e : (up (a +ℤ b) + down a + down b) * n ≡ (down (a +ℤ b) + up a + up b) * n = ap (λ z. z * n) (split a b) in omega (arith, ints)
add_times a b (negsuc n) = let e : (up (a +ℤ b) + down a + down b) * suc n ≡ (down (a +ℤ b) + up a + up b) * suc n = ap (λ z. z * suc n) (split a b) in omega (arith, ints)

pub zero_times : (k : ℤ) → pos 0 *ℤ k ≡ pos 0
zero_times (pos n) = omega (arith, ints)
zero_times (negsuc n) = omega (arith, ints)

part_times : (i v : ℕ) (a k : ℤ) → part_at i (v, a *ℤ k) ≡ part_at i (v, a) *ℤ k
part_times i v a k = by (nat_eq v i)
  where
    by : (t : Bool) → cond t (a *ℤ k) (pos 0) ≡ cond t a (pos 0) *ℤ k
    by true = refl
    by false = sym (zero_times k)

pub scaled_coefficient : (i : ℕ) (k : ℤ) (ts : List Term) → coefficient_at i (scaled k ts) ≡ coefficient_at i ts *ℤ k
scaled_coefficient i k [] = sym (zero_times k)
scaled_coefficient i k (t ∷ ts) =
    kept_coefficient i (t.0, t.1 *ℤ k) (scaled k ts) ∙ ap (λ z. z +ℤ coefficient_at i (scaled k ts)) (part_times i t.0 t.1 k)
    ∙ ap (λ z. part_at i t *ℤ k +ℤ z) (scaled_coefficient i k ts) ∙ sym (add_times (part_at i t) (coefficient_at i ts) k)

-- what holds of each product holds of each term of the scaled list
module _ (r : Term → Bool) (k : ℤ) where
  all_kept : (t : Term) (ts : List Term) → r t ≡ true → list_all r ts ≡ true → list_all r (kept t ++ ts) ≡ true
  all_kept t ts h all = by (int_eq t.1 (pos 0))
    where
      by : (b : Bool) → list_all r (cond b [] (t ∷ []) ++ ts) ≡ true
      by true = all
      by false = and_from (r t) (list_all r ts) h all

  all_scaled : (ts : List Term) → list_all (λ t. r (t.0, t.1 *ℤ k)) ts ≡ true → list_all r (scaled k ts) ≡ true
  all_scaled [] h = refl
  all_scaled (t ∷ ts) h =
      let p = and_parts (r (t.0, t.1 *ℤ k)) (list_all (λ u. r (u.0, u.1 *ℤ k)) ts) h in
      all_kept (t.0, t.1 *ℤ k) (scaled k ts) p.0 (all_scaled ts p.1)

pub scaled_lies : (most k : ℤ) (ts : List Term) → products_lie_in most k ts ≡ true → terms_lie_in most (scaled k ts) ≡ true
scaled_lies most k = all_scaled (λ t. lies_in most t.1) k

pub scaled_variables : (n : ℕ) (k : ℤ) (ts : List Term) → has_variables_to n ts ≡ true → has_variables_to n (scaled k ts) ≡ true
scaled_variables n k = all_scaled (λ t. nat_lt 0 t.0 && nat_le t.0 n) k

pub multiple_lies : (most k : ℤ) (a : Affine) → lies_in most (a.constant *ℤ k) ≡ true → products_lie_in most k a.terms ≡ true → sum_lies_in most (multiple_of k a) ≡ true
multiple_lies most k a h p = and_from (lies_in most (a.constant *ℤ k)) (terms_lie_in most (scaled k a.terms)) h (scaled_lies most k a.terms p)
