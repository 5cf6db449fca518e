-- The ends of an interval bound the values of the sum, and each is one of them.
use Rattle.std.proofs.Common.{◌≡◌, ◌<◌, ◌≤◌, ◌+◌, ◌*◌, ℕ, suc, ℤ, pos, negsuc, ◌+ℤ◌, ◌*ℤ◌, ◌≤ℤ◌, List, [], ◌∷◌, length, nat_eq, nat_lt, nat_le, Bool, true, false, cond, ◌&&◌, refl, sym, ap, ◌∙◌, subst, ⊎_elim, arith}
use Rattle.std.specs.Prelude.{◌⊎◌}
use Rattle.std.specs.Int.{int_min, int_max}
use Rattle.std.proofs.lemmas.Bool.{and_parts}
use Rattle.std.proofs.lemmas.Int.{ints, clamps}
use Rattle.std.proofs.Math.Nat.{mul-le-mul_right, add-mul}
use Rattle.std.proofs.Math.IntN.{*ℤ_comm}
use borrow.Author.Differences.{up, down}
use Rattle.c_tree.specs.declared.affine.Affine.{Affine}
use Rattle.affine_sets.specs.Sums.{Term, terms_at, value_at, has_variables_to, is_ordered, is_ordered_from}
use Rattle.affine_sets.specs.Ends.{Pair, pair_of, ends, interval_of, LiesWithin, IsPoint, HasPoints, IsReached}
use Rattle.affine_sets.proofs.EndSteps.{end_of}
use Rattle.affine_sets.proofs.Ordered.{parts}

-- ---- bounds

spread : (a b c d n : ℕ) → a + b ≤ c + d → a * n + b * n ≤ c * n + d * n
spread a b c d n h = omega (arith, mul-le-mul_right n h, add-mul a b n, add-mul c d n)

scale : (a b : ℤ) (n : ℕ) → a ≤ℤ b → (a *ℤ pos n) ≤ℤ (b *ℤ pos n)
scale a b n h = let k = spread (up a) (down b) (up b) (down a) n (omega (arith, ints)) in omega (arith, ints)

flip : (a b : ℤ) (n : ℕ) → a ≤ℤ b → (b *ℤ negsuc n) ≤ℤ (a *ℤ negsuc n)
flip a b n h = let k = spread (up a) (down b) (up b) (down a) (suc n) (omega (arith, ints)) in omega (arith, ints)

record Between (c low high z : ℤ) : Type 0 where
  least : int_min (c *ℤ low) (c *ℤ high) ≤ℤ z
  greatest : z ≤ℤ int_max (c *ℤ low) (c *ℤ high)

turned : (low high a c : ℤ) → low ≤ℤ a → a ≤ℤ high → (int_min (low *ℤ c) (high *ℤ c) ≤ℤ (a *ℤ c)) × ((a *ℤ c) ≤ℤ int_max (low *ℤ c) (high *ℤ c))
turned low high a (pos n) p q = let x = scale low a n p in let y = scale a high n q in (omega (arith, ints, clamps), omega (arith, ints, clamps))
turned low high a (negsuc n) p q = let x = flip low a n p in let y = flip a high n q in (omega (arith, ints, clamps), omega (arith, ints, clamps))

between : (c low high a : ℤ) → low ≤ℤ a → a ≤ℤ high → Between c low high (c *ℤ a)
between c low high a p q =
    let t = turned low high a c p q in
    record { least = rw (*ℤ_comm c low, *ℤ_comm c high, *ℤ_comm c a) t.0; greatest = rw (*ℤ_comm c low, *ℤ_comm c high, *ℤ_comm c a) t.1 }

record InRange (n v : ℕ) : Type 0 where
  some : 0 < v
  most : v ≤ n

in_range : (n v : ℕ) → nat_lt 0 v && nat_le v n ≡ true → InRange n v
in_range n v h = let k = and_parts (nat_lt 0 v) (nat_le v n) h in record { some = low v k.0; most = high v n k.1 }
  where
    low : (u : ℕ) → nat_lt 0 u ≡ true → 0 < u
    low u h = grind arith

    high : (u m : ℕ) → nat_le u m ≡ true → u ≤ m
    high u m h = grind arith

record Among (within : List Pair) (t : Term) (ts : List Term) : Type 0 where
  first : InRange (length within) t.0
  more : has_variables_to (length within) ts ≡ true

among : (within : List Pair) (t : Term) (ts : List Term) → has_variables_to (length within) (t ∷ ts) ≡ true → Among within t ts
among within t ts h =
    let k = and_parts (nat_lt 0 t.0 && nat_le t.0 (length within)) (has_variables_to (length within) ts) h in
    record { first = in_range (length within) t.0 k.0; more = k.1 }

record Bounds (point : ℕ → ℤ) (within : List Pair) (ts : List Term) : Type 0 where
  least : ends int_min within ts ≤ℤ terms_at point ts
  greatest : terms_at point ts ≤ℤ ends int_max within ts

added_bounds : (a b c d e f : ℤ) → a ≤ℤ b → b ≤ℤ c → d ≤ℤ e → e ≤ℤ f → ((a +ℤ d) ≤ℤ (b +ℤ e)) × ((b +ℤ e) ≤ℤ (c +ℤ f))
added_bounds a b c d e f h i j k = (omega (arith, ints), omega (arith, ints))

terms_bounds : (point : ℕ → ℤ) (within : List Pair) (ts : List Term) → IsPoint within point → has_variables_to (length within) ts ≡ true → Bounds point within ts
terms_bounds point within [] is h = record { least = omega (arith, ints); greatest = omega (arith, ints) }
terms_bounds point within (t ∷ ts) is h =
    let m = among within t ts h in
    let w = is t.0 m.first.some m.first.most in
    let b = between t.1 (pair_of within t.0).0 (pair_of within t.0).1 (point t.0) w.0 w.1 in
    let r = terms_bounds point within ts is m.more in
    let s = added_bounds (end_of int_min within t) (t.1 *ℤ point t.0) (end_of int_max within t) (ends int_min within ts) (terms_at point ts) (ends int_max within ts) b.least b.greatest r.least r.greatest in
    record { least = s.0; greatest = s.1 }

pub bounds : (a : Affine) (within : List Pair) → has_variables_to (length within) a.terms ≡ true → (point : ℕ → ℤ) → IsPoint within point → LiesWithin (interval_of a within) (value_at point a)
bounds a within h point is =
    let b = terms_bounds point within a.terms is h in
    added_bounds a.constant a.constant a.constant (ends int_min within a.terms) (terms_at point a.terms) (ends int_max within a.terms) (omega (arith, ints)) (omega (arith, ints)) b.least b.greatest

-- ---- both ends are reached

-- a point with another value of one variable
abbrev put : ℕ → ℤ → (ℕ → ℤ) → ℕ → ℤ
put v z point = λ w. cond (nat_eq w v) z (point w)

other : (v w u : ℕ) → v < w → nat_le w u ≡ true → nat_eq u v ≡ false
other v w u h k = grind arith

further : (v w u : ℕ) → v < w → nat_le w u ≡ true → v < suc u
further v w u h k = grind arith

unchanged : (v w : ℕ) (z : ℤ) (point : ℕ → ℤ) (ts : List Term) → v < w → is_ordered_from w ts ≡ true → terms_at (put v z point) ts ≡ terms_at point ts
unchanged v w z point [] h o = refl
unchanged v w z point (t ∷ ts) h o =
    let p = parts w t ts o in
    ap (λ b. t.1 *ℤ cond b z (point t.0) +ℤ terms_at (put v z point) ts) (other v w t.0 h p.from)
    ∙ ap (λ x. t.1 *ℤ point t.0 +ℤ x) (unchanged v (suc t.0) z point ts (further v w t.0 h p.from) p.rest)

module _ (choose : ℤ → ℤ → ℤ) (chooses : (x y : ℤ) → (choose x y ≡ x) ⊎ (choose x y ≡ y)) (within : List Pair) (has : HasPoints within) where
  record End (t : Term) : Type 0 where
    at : ℤ
    lies : LiesWithin (pair_of within t.0) at
    is : end_of choose within t ≡ t.1 *ℤ at

  end : (t : Term) → InRange (length within) t.0 → End t
  end t r =
      let p = pair_of within t.0 in
      let h = has t.0 r.some r.most in
      ⊎_elim
      (λ (e : end_of choose within t ≡ t.1 *ℤ p.0). record { at = p.0; lies = (omega (arith, ints), h); is = e })
      (λ (e : end_of choose within t ≡ t.1 *ℤ p.1). record { at = p.1; lies = (h, omega (arith, ints)); is = e })
      (chooses (t.1 *ℤ p.0) (t.1 *ℤ p.1))

  record Point (ts : List Term) : Type 0 where
    point : ℕ → ℤ
    lies : IsPoint within point
    is : terms_at point ts ≡ ends choose within ts

  put_lies : (v : ℕ) (z : ℤ) (point : ℕ → ℤ) → IsPoint within point → LiesWithin (pair_of within v) z → IsPoint within (put v z point)
  put_lies v z point is h = λ w some most. by w (nat_eq w v) refl (is w some most)
    where
      same : (a b : ℕ) → nat_eq a b ≡ true → a ≡ b
      same a b e = grind arith

      by : (w : ℕ) (b : Bool) → nat_eq w v ≡ b → LiesWithin (pair_of within w) (point w) → LiesWithin (pair_of within w) (cond b z (point w))
      by w true e i = let P : ℕ → Type 0 = λ u. LiesWithin (pair_of within u) z in subst P (sym (same w v e)) h
      by w false e i = i

  reach : (ts : List Term) (v : ℕ) → is_ordered_from v ts ≡ true → has_variables_to (length within) ts ≡ true → Point ts
  reach [] v o h = record { point = λ w. (pair_of within w).0; lies = λ w some most. (omega (arith, ints), has w some most); is = refl }
  reach (t ∷ ts) v o h =
      let p = parts v t ts o in
      let m = among within t ts h in
      let r = reach ts (suc t.0) p.rest m.more in
      let e = end t m.first in
      let here : nat_eq t.0 t.0 ≡ true = grind arith in
      let below : t.0 < suc t.0 = omega arith in
      record {
        point = put t.0 e.at r.point;
        lies = put_lies t.0 e.at r.point r.lies e.lies;
        is = ap (λ b. t.1 *ℤ cond b e.at (r.point t.0) +ℤ terms_at (put t.0 e.at r.point) ts) here
            ∙ ap (λ x. t.1 *ℤ e.at +ℤ x) (unchanged t.0 (suc t.0) e.at r.point ts below p.rest ∙ r.is)
            ∙ ap (λ x. x +ℤ ends choose within ts) (sym e.is);
      }

  reached : (a : Affine) → is_ordered a.terms ≡ true → has_variables_to (length within) a.terms ≡ true → IsReached a within (a.constant +ℤ ends choose within a.terms)
  reached a o h = let r = reach a.terms 0 o h in (r.point, r.lies, ap (λ x. a.constant +ℤ x) r.is)

min_is : (x y : ℤ) → (int_min x y ≡ x) ⊎ (int_min x y ≡ y)
min_is x y = grind arith

max_is : (x y : ℤ) → (int_max x y ≡ x) ⊎ (int_max x y ≡ y)
max_is x y = grind arith

pub least_reached : (a : Affine) (within : List Pair) → is_ordered a.terms ≡ true → has_variables_to (length within) a.terms ≡ true → HasPoints within → IsReached a within (interval_of a within).0
least_reached a within o h has = reached int_min min_is within has a o h

pub greatest_reached : (a : Affine) (within : List Pair) → is_ordered a.terms ≡ true → has_variables_to (length within) a.terms ≡ true → HasPoints within → IsReached a within (interval_of a within).1
greatest_reached a within o h has = reached int_max max_is within has a o h
