-- The merged list has the sums of the coefficients, in order.
use Rattle.std.proofs.Common.{◌≡◌, ◌+◌, ℕ, List, [], ◌∷◌, ◌++◌, ℤ, pos, ◌+ℤ◌, refl, arith, nat_eq, nat_lt, nat_le, Bool, true, false, cond, ◌&&◌}
use Rattle.std.specs.List.{list_all}
use Rattle.std.specs.Ordering.{int_eq}
use Rattle.std.proofs.lemmas.Bool.{and_parts, and_from}
use Rattle.std.proofs.lemmas.Int.{ints}
use Rattle.acceptance.specs.Affine.{lies_in}
use Rattle.affine_sets.specs.Sums.{Term, part_at, coefficient_at, terms_lie_in, sum_lies_in, has_variables_to}
use Rattle.affine_sets.specs.Merged.{kept, put_in, merged, sum_of}
use Rattle.c_tree.specs.declared.affine.Affine.{Affine}

part_sum : (i v w : ℕ) (a b : ℤ) → v ≡ w → part_at i (v, a +ℤ b) ≡ part_at i (v, a) +ℤ part_at i (w, b)
part_sum i v w a b e = rw (← e) (by (nat_eq v i))
  where
    by : (t : Bool) → cond t (a +ℤ b) (pos 0) ≡ cond t a (pos 0) +ℤ cond t b (pos 0)
    by true = refl
    by false = refl

part_zero : (i v : ℕ) (a : ℤ) → a ≡ pos 0 → part_at i (v, a) ≡ pos 0
part_zero i v a e = rw e (by (nat_eq v i))
  where
    by : (t : Bool) → cond t (pos 0) (pos 0) ≡ pos 0
    by true = refl
    by false = refl

pub kept_coefficient : (i : ℕ) (t : Term) (ts : List Term) → coefficient_at i (kept t ++ ts) ≡ part_at i t +ℤ coefficient_at i ts
kept_coefficient i t ts = by (int_eq t.1 (pos 0)) refl
  where
    by : (b : Bool) → int_eq t.1 (pos 0) ≡ b → coefficient_at i (cond b [] (t ∷ []) ++ ts) ≡ part_at i t +ℤ coefficient_at i ts
    by true e = let z : t.1 ≡ pos 0 = grind (arith, ints) in let p = part_zero i t.0 t.1 z in let c = coefficient_at i ts in let q = part_at i t in omega (arith, ints)
    by false e = refl

module _ (i : ℕ) where
  pick : (x y : Term) (xs ys : List Term) (rest : List Term → List Term) → ((b : List Term) → coefficient_at i (rest b) ≡ coefficient_at i xs +ℤ coefficient_at i b)
      → coefficient_at i (put_in x rest ys) ≡ part_at i x +ℤ coefficient_at i xs +ℤ coefficient_at i ys
      → (s t : Bool) → nat_lt x.0 y.0 ≡ s → nat_lt y.0 x.0 ≡ t
      → coefficient_at i (cond s (x ∷ rest (y ∷ ys)) (cond t (y ∷ put_in x rest ys) (kept (x.0, x.1 +ℤ y.1) ++ rest ys))) ≡ part_at i x +ℤ coefficient_at i xs +ℤ (part_at i y +ℤ coefficient_at i ys)
  pick x y xs ys rest h g true t e f = let k = h (y ∷ ys) in let p = part_at i x in let q = part_at i y in let a = coefficient_at i xs in let b = coefficient_at i ys in omega (arith, ints)
  pick x y xs ys rest h g false true e f = let p = part_at i x in let q = part_at i y in let a = coefficient_at i xs in let b = coefficient_at i ys in omega (arith, ints)
  pick x y xs ys rest h g false false e f =
      let same : x.0 ≡ y.0 = grind arith in
      let k = h ys in let m = kept_coefficient i (x.0, x.1 +ℤ y.1) (rest ys) in let n = part_sum i x.0 y.0 x.1 y.1 same in
      let p = part_at i x in let q = part_at i y in let a = coefficient_at i xs in let b = coefficient_at i ys in omega (arith, ints)

  put : (x : Term) (xs : List Term) (rest : List Term → List Term) → ((b : List Term) → coefficient_at i (rest b) ≡ coefficient_at i xs +ℤ coefficient_at i b)
      → (b : List Term) → coefficient_at i (put_in x rest b) ≡ part_at i x +ℤ coefficient_at i xs +ℤ coefficient_at i b
  put x xs rest h [] = let k = h [] in let p = part_at i x in let a = coefficient_at i xs in omega (arith, ints)
  put x xs rest h (y ∷ ys) = pick x y xs ys rest h (put x xs rest h ys) (nat_lt x.0 y.0) (nat_lt y.0 x.0) refl refl

  pub merged_coefficient : (a b : List Term) → coefficient_at i (merged a b) ≡ coefficient_at i a +ℤ coefficient_at i b
  merged_coefficient [] b = let c = coefficient_at i b in omega (arith, ints)
  merged_coefficient (x ∷ xs) b = put x xs (merged xs) (merged_coefficient xs) b

-- what holds of each term of either list, and of the sum of two terms, holds of each term of the merged list
module _ (p q r : Term → Bool) (from_left : (t : Term) → p t ≡ true → r t ≡ true) (from_right : (t : Term) → q t ≡ true → r t ≡ true)
    (from_both : (x y : Term) → p x ≡ true → q y ≡ true → r (x.0, x.1 +ℤ y.1) ≡ true) where
  all_kept : (t : Term) (ts : List Term) → r t ≡ true → list_all r ts ≡ true → list_all r (kept t ++ ts) ≡ true
  all_kept t ts h all = by (int_eq t.1 (pos 0))
    where
      by : (b : Bool) → list_all r (cond b [] (t ∷ []) ++ ts) ≡ true
      by true = all
      by false = and_from (r t) (list_all r ts) h all

  all_right : (b : List Term) → list_all q b ≡ true → list_all r b ≡ true
  all_right [] h = refl
  all_right (y ∷ ys) h = let k = and_parts (q y) (list_all q ys) h in and_from (r y) (list_all r ys) (from_right y k.0) (all_right ys k.1)

  all_picked : (x y : Term) (ys : List Term) (rest : List Term → List Term) → p x ≡ true → q y ≡ true → list_all r (rest (y ∷ ys)) ≡ true → list_all r (rest ys) ≡ true → list_all r (put_in x rest ys) ≡ true
      → (s t : Bool) → list_all r (cond s (x ∷ rest (y ∷ ys)) (cond t (y ∷ put_in x rest ys) (kept (x.0, x.1 +ℤ y.1) ++ rest ys))) ≡ true
  all_picked x y ys rest hx hy all one more true t = and_from (r x) (list_all r (rest (y ∷ ys))) (from_left x hx) all
  all_picked x y ys rest hx hy all one more false true = and_from (r y) (list_all r (put_in x rest ys)) (from_right y hy) more
  all_picked x y ys rest hx hy all one more false false = all_kept (x.0, x.1 +ℤ y.1) (rest ys) (from_both x y hx hy) one

  all_put : (x : Term) (rest : List Term → List Term) → p x ≡ true → ((b : List Term) → list_all q b ≡ true → list_all r (rest b) ≡ true) → (b : List Term) → list_all q b ≡ true → list_all r (put_in x rest b) ≡ true
  all_put x rest hx h [] all = and_from (r x) (list_all r (rest [])) (from_left x hx) (h [] refl)
  all_put x rest hx h (y ∷ ys) all =
      let k = and_parts (q y) (list_all q ys) all in
      all_picked x y ys rest hx k.0 (h (y ∷ ys) all) (h ys k.1) (all_put x rest hx h ys k.1) (nat_lt x.0 y.0) (nat_lt y.0 x.0)

  pub all_merged : (a b : List Term) → list_all p a ≡ true → list_all q b ≡ true → list_all r (merged a b) ≡ true
  all_merged [] b ha hb = all_right b hb
  all_merged (x ∷ xs) b ha hb = let k = and_parts (p x) (list_all p xs) ha in all_put x (merged xs) k.0 (λ c hc. all_merged xs c k.1 hc) b hb

lies_more : (m n : ℕ) (z : ℤ) → lies_in (pos m) z ≡ true → lies_in (pos (m + n)) z ≡ true
lies_more m n z h = grind (arith, ints)

lies_more' : (m n : ℕ) (z : ℤ) → lies_in (pos n) z ≡ true → lies_in (pos (m + n)) z ≡ true
lies_more' m n z h = grind (arith, ints)

lies_added : (m n : ℕ) (y z : ℤ) → lies_in (pos m) y ≡ true → lies_in (pos n) z ≡ true → lies_in (pos (m + n)) (y +ℤ z) ≡ true
lies_added m n y z h k = grind (arith, ints)

pub merged_lies : (m n : ℕ) (a b : List Term) → terms_lie_in (pos m) a ≡ true → terms_lie_in (pos n) b ≡ true → terms_lie_in (pos (m + n)) (merged a b) ≡ true
merged_lies m n = all_merged (λ t. lies_in (pos m) t.1) (λ t. lies_in (pos n) t.1) (λ t. lies_in (pos (m + n)) t.1) (λ t. lies_more m n t.1) (λ t. lies_more' m n t.1) (λ x y. lies_added m n x.1 y.1)

pub merged_variables : (n : ℕ) (a b : List Term) → has_variables_to n a ≡ true → has_variables_to n b ≡ true → has_variables_to n (merged a b) ≡ true
merged_variables n = all_merged (λ t. nat_lt 0 t.0 && nat_le t.0 n) (λ t. nat_lt 0 t.0 && nat_le t.0 n) (λ t. nat_lt 0 t.0 && nat_le t.0 n) (λ t h. h) (λ t h. h) (λ x y h k. h)

pub sum_lies : (m n : ℕ) (a b : Affine) → sum_lies_in (pos m) a ≡ true → sum_lies_in (pos n) b ≡ true → sum_lies_in (pos (m + n)) (sum_of a b) ≡ true
sum_lies m n a b h k =
    let g = and_parts (lies_in (pos m) a.constant) (terms_lie_in (pos m) a.terms) h in
    let l = and_parts (lies_in (pos n) b.constant) (terms_lie_in (pos n) b.terms) k in
    and_from (lies_in (pos (m + n)) (a.constant +ℤ b.constant)) (terms_lie_in (pos (m + n)) (merged a.terms b.terms)) (lies_added m n a.constant b.constant g.0 l.0) (merged_lies m n a.terms b.terms g.1 l.1)
