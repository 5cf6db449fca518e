-- An ordered list is determined by its coefficients, and is short.
use Rattle.std.proofs.Common.{◌≡◌, ◌<◌, ◌≤◌, ◌+◌, ℕ, suc, List, [], ◌∷◌, length, ℤ, pos, refl, sym, ap, ◌∙◌, arith, nat_eq, nat_lt, nat_le, Bool, true, false, not, ◌&&◌}
use Rattle.std.specs.Ordering.{int_eq}
use Rattle.std.proofs.lemmas.Bool.{and_parts}
use Rattle.std.proofs.lemmas.Int.{ints}
use Rattle.affine_sets.specs.Sums.{Term, coefficient_at, is_ordered_from, has_variables_to}
use Rattle.affine_sets.specs.Laws.{TermsAreDetermined, TermsAreFew}
use Rattle.affine_sets.proofs.Ordered.{parts}
use Rattle.affine_sets.proofs.Coefficients.{own, beside, absent}

-- a coefficient of an ordered list isn't 0
not_0 : (z : ℤ) → not (int_eq z (pos 0)) ≡ true → z ≡ pos 0 → ⊥
not_0 z h e = grind (arith, ints)

alone : (v w : ℕ) (t : Term) (ts b : List Term) → is_ordered_from v (t ∷ ts) ≡ true → is_ordered_from w b ≡ true → t.0 < w → coefficient_at t.0 (t ∷ ts) ≡ coefficient_at t.0 b → ⊥
alone v w t ts b o q l h = not_0 t.1 (parts v t ts o).some (sym (own t.0 v t ts o refl) ∙ h ∙ absent t.0 w b l q)

first : (w : ℕ) (u : Term) (us : List Term) → is_ordered_from w (u ∷ us) ≡ true → is_ordered_from u.0 (u ∷ us) ≡ true
first w u us o = let p = parts w u us o in ap (λ b. b && (not (int_eq u.1 (pos 0)) && is_ordered_from (suc u.0) us)) (at u.0) ∙ ap (λ b. b && is_ordered_from (suc u.0) us) p.some ∙ p.rest
  where
    at : (n : ℕ) → nat_le n n ≡ true
    at n = grind arith

equal : (v w : ℕ) → nat_eq v w ≡ true → v ≡ w
equal v w h = grind arith

rest_same : (v w : ℕ) (t u : Term) (ts us : List Term) → is_ordered_from v (t ∷ ts) ≡ true → is_ordered_from w (u ∷ us) ≡ true → t.0 ≡ u.0
    → ((i : ℕ) → coefficient_at i (t ∷ ts) ≡ coefficient_at i (u ∷ us)) → (i : ℕ) → coefficient_at i ts ≡ coefficient_at i us
rest_same v w t u ts us o q e h i = by (nat_eq t.0 i) refl
  where
    by : (b : Bool) → nat_eq t.0 i ≡ b → coefficient_at i ts ≡ coefficient_at i us
    by true f =
        let same = equal t.0 i f in
        absent i (suc t.0) ts (omega arith) (parts v t ts o).rest ∙ sym (absent i (suc u.0) us (omega arith) (parts w u us q).rest)
    by false f = sym (beside i t ts f) ∙ h i ∙ beside i u us (ap (λ n. nat_eq n i) (sym e) ∙ f)

one_term : (t u : Term) → t.0 ≡ u.0 → t.1 ≡ u.1 → t ≡ u
one_term t u e f =
    let at_variable : ℕ → Term = λ v. (v, t.1) in
    let at_coefficient : ℤ → Term = λ z. (u.0, z) in
    ap at_variable e ∙ ap at_coefficient f

determined : (v w : ℕ) (a b : List Term) → is_ordered_from v a ≡ true → is_ordered_from w b ≡ true → ((i : ℕ) → coefficient_at i a ≡ coefficient_at i b) → a ≡ b
determined v w [] [] o q h = refl
determined v w [] (u ∷ us) o q h = absurd (alone w (suc u.0) u us [] q refl (omega arith) (sym (h u.0)))
determined v w (t ∷ ts) [] o q h = absurd (alone v (suc t.0) t ts [] o refl (omega arith) (h t.0))
determined v w (t ∷ ts) (u ∷ us) o q h = by (nat_lt t.0 u.0) (nat_lt u.0 t.0) refl refl (λ e. determined (suc t.0) (suc u.0) ts us (parts v t ts o).rest (parts w u us q).rest (rest_same v w t u ts us o q e h))
  where
    less : (m n : ℕ) → nat_lt m n ≡ true → m < n
    less m n e = grind arith

    neither : (m n : ℕ) → nat_lt m n ≡ false → nat_lt n m ≡ false → m ≡ n
    neither m n e f = grind arith

    by : (b c : Bool) → nat_lt t.0 u.0 ≡ b → nat_lt u.0 t.0 ≡ c → (t.0 ≡ u.0 → ts ≡ us) → t ∷ ts ≡ u ∷ us
    by true c e f g = absurd (alone v u.0 t ts (u ∷ us) o (first w u us q) (less t.0 u.0 e) (h t.0))
    by false true e f g = absurd (alone w t.0 u us (t ∷ ts) q (first v t ts o) (less u.0 t.0 f) (sym (h u.0)))
    by false false e f g =
        let k = neither t.0 u.0 e f in
        let c = sym (own t.0 v t ts o refl) ∙ h t.0 ∙ own t.0 w u us q (sym k) in
        ap (λ x. x ∷ ts) (one_term t u k c) ∙ ap (λ x. u ∷ x) (g k)

pub terms_are_determined : TermsAreDetermined
terms_are_determined a b o q h = determined 0 0 a b o q h

few : (n v : ℕ) (ts : List Term) → is_ordered_from (suc v) ts ≡ true → has_variables_to n ts ≡ true → v ≤ n → v + length ts ≤ n
few n v [] o h l = omega arith
few n v (t ∷ ts) o h l =
    let p = parts (suc v) t ts o in
    let k = and_parts (nat_lt 0 t.0 && nat_le t.0 n) (has_variables_to n ts) h in
    let r = and_parts (nat_lt 0 t.0) (nat_le t.0 n) k.0 in
    more (length ts) (low (suc v) t.0 p.from) (few n t.0 ts p.rest k.1 (low t.0 n r.1))
  where
    low : (m u : ℕ) → nat_le m u ≡ true → m ≤ u
    low m u g = grind arith

    more : (m : ℕ) → suc v ≤ t.0 → t.0 + m ≤ n → v + suc m ≤ n
    more m a b = omega arith

pub terms_are_few : TermsAreFew
terms_are_few n [] o h = omega arith
terms_are_few n (t ∷ ts) o h =
    let p = parts 0 t ts o in
    let k = and_parts (nat_lt 0 t.0 && nat_le t.0 n) (has_variables_to n ts) h in
    let r = and_parts (nat_lt 0 t.0) (nat_le t.0 n) k.0 in
    more t.0 (length ts) (above t.0 r.0) (few n t.0 ts p.rest k.1 (low t.0 n r.1))
  where
    low : (m u : ℕ) → nat_le m u ≡ true → m ≤ u
    low m u g = grind arith

    above : (u : ℕ) → nat_lt 0 u ≡ true → 0 < u
    above u g = grind arith

    more : (u m : ℕ) → 0 < u → u + m ≤ n → suc m ≤ n
    more u m a b = omega arith
