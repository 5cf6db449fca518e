-- The lists that the code makes are in order.
use Rattle.std.proofs.Common.{◌≡◌, ◌≤◌, ℕ, suc, List, [], ◌∷◌, ◌++◌, ℤ, pos, ◌+ℤ◌, ◌*ℤ◌, refl, sym, ap, arith, nat_lt, nat_le, Bool, true, false, cond, not, ◌&&◌}
use Rattle.std.specs.Ordering.{int_eq}
use Rattle.std.proofs.lemmas.Bool.{and_parts, and_from}
use Rattle.affine_sets.specs.Sums.{Term, is_ordered, is_ordered_from}
use Rattle.affine_sets.specs.Merged.{kept, put_in, merged, scaled}

abbrev isn't_0 : ℤ → Bool
isn't_0 z = not (int_eq z (pos 0))

-- what is known of an ordered list and its first term
pub record Parts (v : ℕ) (t : Term) (ts : List Term) : Type 0 where
  pub from : nat_le v t.0 ≡ true
  pub some : not (int_eq t.1 (pos 0)) ≡ true
  pub rest : is_ordered_from (suc t.0) ts ≡ true

pub parts : (v : ℕ) (t : Term) (ts : List Term) → is_ordered_from v (t ∷ ts) ≡ true → Parts v t ts
parts v t ts h =
    let k = and_parts (nat_le v t.0) (isn't_0 t.1 && is_ordered_from (suc t.0) ts) h in
    let l = and_parts (isn't_0 t.1) (is_ordered_from (suc t.0) ts) k.1 in
    record { from = k.0; some = l.0; rest = l.1 }

whole : (v : ℕ) (t : Term) (ts : List Term) → Parts v t ts → is_ordered_from v (t ∷ ts) ≡ true
whole v t ts p = and_from (nat_le v t.0) (isn't_0 t.1 && is_ordered_from (suc t.0) ts) p.from (and_from (isn't_0 t.1) (is_ordered_from (suc t.0) ts) p.some p.rest)

lower_first : (u v w : ℕ) → u ≤ v → nat_le v w ≡ true → nat_le u w ≡ true
lower_first u v w h k = grind arith

pub lower : (u v : ℕ) (ts : List Term) → u ≤ v → is_ordered_from v ts ≡ true → is_ordered_from u ts ≡ true
lower u v [] h o = refl
lower u v (t ∷ ts) h o = let p = parts v t ts o in whole u t ts (record { from = lower_first u v t.0 h p.from; some = p.some; rest = p.rest })

after_it : (v w : ℕ) → nat_le v w ≡ true → v ≤ suc w
after_it v w h = grind arith

kept_ordered : (v : ℕ) (t : Term) (ts : List Term) → nat_le v t.0 ≡ true → is_ordered_from (suc t.0) ts ≡ true → is_ordered_from v (kept t ++ ts) ≡ true
kept_ordered v t ts h o = by (int_eq t.1 (pos 0)) refl
  where
    by : (b : Bool) → int_eq t.1 (pos 0) ≡ b → is_ordered_from v (cond b [] (t ∷ []) ++ ts) ≡ true
    by true e = lower v (suc t.0) ts (after_it v t.0 h) o
    by false e = whole v t ts (record { from = h; some = ap not e; rest = o })

less : (v w : ℕ) → nat_lt v w ≡ true → nat_le (suc v) w ≡ true
less v w h = grind arith

same : (v w : ℕ) → nat_lt v w ≡ false → nat_lt w v ≡ false → w ≡ v
same v w h k = grind arith

-- x stands before xs, and the rest with any list is in order where both are
module _ (x : Term) (xs : List Term) (rest : List Term → List Term) (merges : (v : ℕ) (b : List Term) → is_ordered_from v xs ≡ true → is_ordered_from v b ≡ true → is_ordered_from v (rest b) ≡ true) where
  pick : (v : ℕ) (y : Term) (ys : List Term) → Parts v x xs → Parts v y ys → (nat_le (suc y.0) x.0 ≡ true → is_ordered_from (suc y.0) (put_in x rest ys) ≡ true) → (s t : Bool) → nat_lt x.0 y.0 ≡ s → nat_lt y.0 x.0 ≡ t
      → is_ordered_from v (cond s (x ∷ rest (y ∷ ys)) (cond t (y ∷ put_in x rest ys) (kept (x.0, x.1 +ℤ y.1) ++ rest ys))) ≡ true
  pick v y ys p q more true t e f = whole v x (rest (y ∷ ys)) (record { from = p.from; some = p.some; rest = merges (suc x.0) (y ∷ ys) p.rest (whole (suc x.0) y ys (record { from = less x.0 y.0 e; some = q.some; rest = q.rest })) })
  pick v y ys p q more false true e f = whole v y (put_in x rest ys) (record { from = q.from; some = q.some; rest = more (less y.0 x.0 f) })
  pick v y ys p q more false false e f =
      let there : is_ordered_from (suc x.0) ys ≡ true = rw (ap suc (sym (same x.0 y.0 e f))) q.rest in
      kept_ordered v (x.0, x.1 +ℤ y.1) (rest ys) p.from (merges (suc x.0) ys p.rest there)

  put : (v : ℕ) (b : List Term) → Parts v x xs → is_ordered_from v b ≡ true → is_ordered_from v (put_in x rest b) ≡ true
  put v [] p o = whole v x (rest []) (record { from = p.from; some = p.some; rest = merges (suc x.0) [] p.rest refl })
  put v (y ∷ ys) p o =
      let q = parts v y ys o in
      pick v y ys p q (λ f. put (suc y.0) ys (record { from = f; some = p.some; rest = p.rest }) q.rest) (nat_lt x.0 y.0) (nat_lt y.0 x.0) refl refl

merged_from : (a : List Term) (v : ℕ) (b : List Term) → is_ordered_from v a ≡ true → is_ordered_from v b ≡ true → is_ordered_from v (merged a b) ≡ true
merged_from [] v b oa ob = ob
merged_from (x ∷ xs) v b oa ob = put x xs (merged xs) (merged_from xs) v b (parts v x xs oa) ob

scaled_from : (factor : ℤ) (a : List Term) (v : ℕ) → is_ordered_from v a ≡ true → is_ordered_from v (scaled factor a) ≡ true
scaled_from factor [] v o = refl
scaled_from factor (t ∷ ts) v o = let p = parts v t ts o in kept_ordered v (t.0, t.1 *ℤ factor) (scaled factor ts) p.from (scaled_from factor ts (suc t.0) p.rest)

pub merged_ordered : (a b : List Term) → is_ordered a ≡ true → is_ordered b ≡ true → is_ordered (merged a b) ≡ true
merged_ordered a b = merged_from a 0 b

pub scaled_ordered : (factor : ℤ) (a : List Term) → is_ordered a ≡ true → is_ordered (scaled factor a) ≡ true
scaled_ordered factor a = scaled_from factor a 0
