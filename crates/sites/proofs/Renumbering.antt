-- Where variables are numbered anew in their order, a sum stays the sum of its expression.
use Rattle.std.proofs.Common.{◌≡◌, ℕ, zero, suc, ◌+◌, ◌<◌, ◌≤◌, Bool, true, false, not, ◌&&◌, ◌||◌, cond, List, [], ◌∷◌, length, map, pos, ◌+ℤ◌, refl, sym, ap, ◌∙◌, subst, nat_eq, nat_le, nat_lt, Option, Some, Result, Ok, Err, arith, inl, inr, ◌⊎◌}
use Rattle.std.specs.Result.{IfOk}
use Rattle.std.specs.Option.{IfSome}
use Rattle.std.proofs.lemmas.List.{length-map}
use Rattle.c_tree.specs.Trees.{word}
use Rattle.std.specs.List.{list_all, slice_get, AllByRecursion}
use Rattle.std.specs.Ordering.{int_eq}
use Rattle.std.proofs.lemmas.Bool.{and_parts, and_from, leb-true, le-leb, cases_lt, eq-eqb, ne_eqb, ltb-true}
use Rattle.c_tree.specs.Names.{words}
use Rattle.c_tree.specs.Plain.{Word, PlainExpr}
use Rattle.c_tree.specs.declared.affine.Affine.{Affine}
use Rattle.acceptance.specs.Affine.{coefficient}
use Rattle.affine_sets.specs.Expressions.{StandsFor}
use Rattle.affine_sets.specs.Sums.{Term, part_at, coefficient_at, is_ordered, is_ordered_from, has_variables_to}
use Rattle.sites.specs.Variables.{counted_from, IsSum, is_variable, paired, names_of, numbers_of, Holds, IsUsable, variables_in, is_increasing_from, or_zero, number_at, renumbered}
use Rattle.sites.specs.declared.variables.Variables.{Variables}

-- ---- names and numbers side by side

pub names_counted : (k : ℕ) (xs : List Word) → xs ≡ names_of (counted_from k xs)
names_counted k [] = refl
names_counted k (x ∷ xs) = ap (λ (ys : List Word). x ∷ ys) (names_counted (suc k) xs)

paired_both : (xs : List (Word × ℕ)) → paired (names_of xs) (numbers_of xs) ≡ xs
paired_both [] = refl
paired_both (x ∷ xs) = ap (λ (ys : List (Word × ℕ)). x ∷ ys) (paired_both xs)

pub held : (v : Variables) (xs : List (Word × ℕ)) → Holds v xs → variables_in v ≡ xs
held v xs h = ap (λ ws. paired ws v.numbers) h.names_are ∙ ap (λ ns. paired (names_of xs) ns) h.numbers_are ∙ paired_both xs

-- ---- numbers that rise

bound : (k : ℕ) (ns : List ℕ) → is_increasing_from k ns ≡ true → (i : ℕ) → i < length ns → k ≤ or_zero (slice_get ns i)
bound k [] h i g = absurd (let f : ⊥ = omega arith in f)
bound k (m ∷ ns) h zero g = leb-true k m (and_parts (nat_le k m) (is_increasing_from (suc m) ns) h).0
bound k (m ∷ ns) h (suc i) g =
    let p = and_parts (nat_le k m) (is_increasing_from (suc m) ns) h in
    let a = leb-true k m p.0 in
    let b = bound (suc m) ns p.1 i (omega arith) in
    omega arith

rises : (k : ℕ) (ns : List ℕ) → is_increasing_from k ns ≡ true → (i j : ℕ) → i < j → j < length ns → or_zero (slice_get ns i) < or_zero (slice_get ns j)
rises k [] h i j l g = absurd (let f : ⊥ = omega arith in f)
rises k (m ∷ ns) h i zero l g = absurd (let f : ⊥ = omega arith in f)
rises k (m ∷ ns) h zero (suc j) l g = bound (suc m) ns (and_parts (nat_le k m) (is_increasing_from (suc m) ns) h).1 j (omega arith)
rises k (m ∷ ns) h (suc i) (suc j) l g = rises (suc m) ns (and_parts (nat_le k m) (is_increasing_from (suc m) ns) h).1 i j (omega arith) (omega arith)

number_rises : (ns : List ℕ) → is_increasing_from 1 ns ≡ true → (u w : ℕ) → 0 < u → u < w → w ≤ length ns → number_at ns u < number_at ns w
number_rises ns h zero w a b c = absurd (let f : ⊥ = omega arith in f)
number_rises ns h (suc i) zero a b c = absurd (let f : ⊥ = omega arith in f)
number_rises ns h (suc i) (suc j) a b c = rises 1 ns h i j (omega arith) (omega arith)

-- ---- terms

other_number : (a b : ℕ) → a < b → nat_eq a b ≡ false
other_number a b h = ne_eqb a b (λ e. omega arith)

other_number_above : (a b : ℕ) → b < a → nat_eq a b ≡ false
other_number_above a b h = ne_eqb a b (λ e. omega arith)

module _ (f : ℕ → ℕ) (n : ℕ) (rising : (u w : ℕ) → 0 < u → u < w → w ≤ n → f u < f w) where
  abbrev moved : List Term → List Term
  moved ts = map (λ t. (f t.0, t.1)) ts

  its_place : (t : Term) (ts : List Term) → has_variables_to n (t ∷ ts) ≡ true → (0 < t.0) × (t.0 ≤ n) × (has_variables_to n ts ≡ true)
  its_place t ts h =
      let p = and_parts (nat_lt 0 t.0 && nat_le t.0 n) (has_variables_to n ts) h in
      let q = and_parts (nat_lt 0 t.0) (nat_le t.0 n) p.0 in
      (ltb-true 0 t.0 q.0, leb-true t.0 n q.1, p.1)

  moved_ordered : (v w : ℕ) (ts : List Term) → ((u : ℕ) → 0 < u → v ≤ u → u ≤ n → w ≤ f u) → is_ordered_from v ts ≡ true → has_variables_to n ts ≡ true → is_ordered_from w (moved ts) ≡ true
  moved_ordered v w [] above h g = refl
  moved_ordered v w (t ∷ ts) above h g =
      let p = and_parts (nat_le v t.0) (not (int_eq t.1 (pos 0)) && is_ordered_from (suc t.0) ts) h in
      let q = and_parts (not (int_eq t.1 (pos 0))) (is_ordered_from (suc t.0) ts) p.1 in
      let k = its_place t ts g in
      and_from _ _ (le-leb w (f t.0) (above t.0 k.0 (leb-true v t.0 p.0) k.1))
      (and_from _ _ q.0 (moved_ordered (suc t.0) (suc (f t.0)) ts (λ u a b c. rising t.0 u k.0 (omega (arith, b)) c) q.1 k.2))

  same_part : (u : ℕ) (t : Term) → 0 < u → u ≤ n → 0 < t.0 → t.0 ≤ n → part_at (f u) (f t.0, t.1) ≡ part_at u t
  same_part u t a b c d = by (cases_lt t.0 u) (cases_lt u t.0) where
    by : (t.0 < u) ⊎ (u ≤ t.0) → (u < t.0) ⊎ (t.0 ≤ u) → part_at (f u) (f t.0, t.1) ≡ part_at u t
    by (inl l) r = ap (λ c. cond c t.1 (pos 0)) (other_number (f t.0) (f u) (rising t.0 u c l b) ∙ sym (other_number t.0 u l))
    by (inr l) (inl r) = ap (λ c. cond c t.1 (pos 0)) (other_number_above (f t.0) (f u) (rising u t.0 a r d) ∙ sym (other_number_above t.0 u r))
    by (inr l) (inr r) =
        let e : t.0 ≡ u = omega arith in
        ap (λ c. cond c t.1 (pos 0)) (eq-eqb (f t.0) (f u) (ap f e) ∙ sym (eq-eqb t.0 u e))

  moved_coefficient : (u : ℕ) → 0 < u → u ≤ n → (ts : List Term) → has_variables_to n ts ≡ true → coefficient_at (f u) (moved ts) ≡ coefficient_at u ts
  moved_coefficient u a b [] g = refl
  moved_coefficient u a b (t ∷ ts) g =
      let k = its_place t ts g in
      ap (λ z. z +ℤ coefficient_at (f u) (moved ts)) (same_part u t a b k.0 k.1) ∙ ap (λ z. part_at u t +ℤ z) (moved_coefficient u a b ts k.2)

  moved_variables : (xs : List (Word × ℕ)) → ((u : ℕ) → 0 < u → u ≤ n → is_variable xs (f u) ≡ true) → (ts : List Term) → has_variables_to n ts ≡ true
      → list_all (λ t. is_variable xs t.0) (moved ts) ≡ true
  moved_variables xs known [] g = refl
  moved_variables xs known (t ∷ ts) g = let k = its_place t ts g in and_from _ _ (known t.0 k.0 k.1) (moved_variables xs known ts k.2)

-- ---- the sum

numbered : (ws : List Word) (ns : List ℕ) → length ws ≡ length ns → (i : ℕ) → i < length ns → is_variable (paired ws ns) (or_zero (slice_get ns i)) ≡ true
numbered [] [] e i h = absurd (let f : ⊥ = omega arith in f)
numbered [] (m ∷ ns) e i h = absurd (let f : ⊥ = omega arith in f)
numbered (x ∷ ws) [] e i h = absurd (let f : ⊥ = omega arith in f)
numbered (x ∷ ws) (m ∷ ns) e zero h = ap (λ b. b || is_variable (paired ws ns) m) (eq-eqb m m refl)
numbered (x ∷ ws) (m ∷ ns) e (suc i) h =
    let k = or_zero (slice_get ns i) in
    ap (λ b. nat_eq m k || b) (numbered ws ns (omega arith) i (omega arith)) ∙ or_true (nat_eq m k) where
      or_true : (b : Bool) → (b || true) ≡ true
      or_true true = refl
      or_true false = refl

module _ (ws : List Word) (ns : List ℕ) (e : PlainExpr) (a : Affine) (whole : length ws ≡ length ns) (rising : is_increasing_from 1 ns ≡ true) (h : StandsFor ws e a) where
  has_all : has_variables_to (length ns) a.terms ≡ true
  has_all = subst (λ (k : ℕ). has_variables_to k a.terms ≡ true) whole h.variables

  known : (u : ℕ) → 0 < u → u ≤ length ns → is_variable (paired ws ns) (number_at ns u) ≡ true
  known zero p q = absurd (let f : ⊥ = omega arith in f)
  known (suc i) p q = numbered ws ns whole i (omega arith)

  at_each : (xs : List Word) (ms : List ℕ) (k : ℕ) → ((i : ℕ) (x : Word) → slice_get xs i ≡ Some x → coefficient_at (suc (k + i)) a.terms ≡ coefficient x e)
      → ((i : ℕ) → or_zero (slice_get ns (k + i)) ≡ or_zero (slice_get ms i)) → k + length ms ≤ length ns
      → AllByRecursion (λ (x : Word × ℕ). coefficient_at x.1 (renumbered ns a.terms) ≡ coefficient x.0 e) (paired xs ms)
  at_each [] ms k cs ps room = tt
  at_each (x ∷ xs) [] k cs ps room = tt
  at_each (x ∷ xs) (m ∷ ms) k cs ps room =
      let z : k + 0 ≡ k = omega arith in
      let here : or_zero (slice_get ns k) ≡ m = subst (λ (j : ℕ). or_zero (slice_get ns j) ≡ m) z (ps 0) in
      let there : coefficient_at (suc k) a.terms ≡ coefficient x e = subst (λ (j : ℕ). coefficient_at (suc j) a.terms ≡ coefficient x e) z (cs 0 x refl) in (
        ap (λ (j : ℕ). coefficient_at j (renumbered ns a.terms)) (sym here)
            ∙ moved_coefficient (number_at ns) (length ns) (number_rises ns rising) (suc k) (omega arith) (omega arith) a.terms has_all ∙ there,
        at_each xs ms (suc k)
            (λ i y g. subst (λ (j : ℕ). coefficient_at (suc j) a.terms ≡ coefficient y e) (let s : k + suc i ≡ suc k + i = omega arith in s) (cs (suc i) y g))
            (λ i. subst (λ (j : ℕ). or_zero (slice_get ns j) ≡ or_zero (slice_get ms i)) (let s : k + suc i ≡ suc k + i = omega arith in s) (ps (suc i)))
            (omega arith),
      )

  pub stands : (b : Affine) → b.constant ≡ a.constant → b.terms ≡ renumbered ns a.terms → IsSum (paired ws ns) e b
  stands b same terms = record {
    constant_is = same ∙ h.constant;
    coefficients = subst (λ (ts : List Term). AllByRecursion (λ (x : Word × ℕ). coefficient_at x.1 ts ≡ coefficient x.0 e) (paired ws ns)) (sym terms)
        (at_each ws ns 0
        (λ i x g. subst (λ (j : ℕ). coefficient_at (suc j) a.terms ≡ coefficient x e) (let z : i ≡ 0 + i = omega arith in z) (h.coefficients i x g))
        (λ i. ap (λ (j : ℕ). or_zero (slice_get ns j)) (let z : 0 + i ≡ i = omega arith in z)) (omega arith));
    ordered = ap is_ordered terms ∙ moved_ordered (number_at ns) (length ns) (number_rises ns rising) 0 0 a.terms (λ u p q r. omega arith) h.ordered has_all;
    variables = ap (λ (ts : List Term). list_all (λ t. is_variable (paired ws ns) t.0) ts) terms
        ∙ moved_variables (number_at ns) (length ns) (number_rises ns rising) (paired ws ns) known a.terms has_all;
  }

-- ---- what is handed on

pub held_after : {E : Type 0} (r : Result Variables E) (v : Variables) (xs : List (Word × ℕ)) → IfOk r (λ w. (w ≡ v) × IsUsable w) → Holds v xs → IfOk r (λ w. variables_in w ≡ xs)
held_after (Ok w) v xs h g = ap variables_in h.0 ∙ held v xs g
held_after (Err e) v xs h g = tt

pub stands_after : {E : Type 0} (v : Variables) (e : PlainExpr) (o : Option Affine) (s : Affine) (r : Result Affine E) (ns : List ℕ) → IsUsable v → IfSome o (StandsFor (words v.names) e) → o ≡ Some s
    → ns ≡ v.numbers → IfOk r (λ a. (a.constant ≡ s.constant) × (a.terms ≡ renumbered ns s.terms)) → IfOk r (λ a. IsSum (variables_in v) e a)
stands_after v e o s (Ok a) ns u h is same g =
    stands (words v.names) v.numbers e s (length-map v.names word ∙ u.whole) u.increasing (subst (λ (p : Option Affine). IfSome p (StandsFor (words v.names) e)) is h) a g.0
    (g.1 ∙ ap (λ (ms : List ℕ). renumbered ms s.terms) same)
stands_after v e o s (Err x) ns u h is same g = tt
