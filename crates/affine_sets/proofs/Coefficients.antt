-- The coefficients of an ordered list are those of its terms.
use Rattle.std.proofs.Common.{◌≡◌, ◌<◌, ℕ, suc, List, [], ◌∷◌, pos, refl, ap, ◌∙◌, arith, nat_eq, nat_le, true, false, cond}
use Rattle.std.proofs.lemmas.Int.{ints}
use Rattle.affine_sets.specs.Sums.{Term, part_at, coefficient_at, is_ordered_from}
use Rattle.affine_sets.proofs.Ordered.{parts}

part_is : (i : ℕ) (t : Term) → t.0 ≡ i → part_at i t ≡ t.1
part_is i t e = let h : nat_eq t.0 i ≡ true = grind arith in ap (λ b. cond b t.1 (pos 0)) h

part_none : (i : ℕ) (t : Term) → nat_eq t.0 i ≡ false → part_at i t ≡ pos 0
part_none i t h = ap (λ b. cond b t.1 (pos 0)) h

pub beside : (i : ℕ) (t : Term) (ts : List Term) → nat_eq t.0 i ≡ false → coefficient_at i (t ∷ ts) ≡ coefficient_at i ts
beside i t ts h = let e = part_none i t h in let p = part_at i t in let c = coefficient_at i ts in omega (arith, ints)

differs : (i v w : ℕ) → i < v → nat_le v w ≡ true → nat_eq w i ≡ false
differs i v w h k = grind arith

further : (i v w : ℕ) → i < v → nat_le v w ≡ true → i < suc w
further i v w h k = grind arith

pub absent : (i v : ℕ) (ts : List Term) → i < v → is_ordered_from v ts ≡ true → coefficient_at i ts ≡ pos 0
absent i v [] h o = refl
absent i v (t ∷ ts) h o =
    let p = parts v t ts o in
    beside i t ts (differs i v t.0 h p.from) ∙ absent i (suc t.0) ts (further i v t.0 h p.from) p.rest

pub own : (i v : ℕ) (t : Term) (ts : List Term) → is_ordered_from v (t ∷ ts) ≡ true → t.0 ≡ i → coefficient_at i (t ∷ ts) ≡ t.1
own i v t ts o e =
    let p = parts v t ts o in
    let a = absent i (suc t.0) ts (omega arith) p.rest in
    let k = part_is i t e in let q = part_at i t in let c = coefficient_at i ts in omega (arith, ints)

-- the second of two
pub second : (v : ℕ) (t u : Term) (ts : List Term) → is_ordered_from v (t ∷ u ∷ ts) ≡ true → coefficient_at u.0 (t ∷ u ∷ ts) ≡ u.1
second v t u ts o =
    let p = parts v t (u ∷ ts) o in
    let q = parts (suc t.0) u ts p.rest in
    beside u.0 t (u ∷ ts) (before t.0 u.0 q.from) ∙ own u.0 (suc t.0) u ts p.rest refl
  where
    before : (m n : ℕ) → nat_le (suc m) n ≡ true → nat_eq m n ≡ false
    before m n h = grind arith
