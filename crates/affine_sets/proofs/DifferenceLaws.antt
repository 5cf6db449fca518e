-- The difference that the code reads says what the sum says.
use Rattle.std.proofs.Common.{◌≡◌, ℕ, List, [], ◌∷◌, ℤ, pos, negsuc, neg_ℤ, ◌+ℤ◌, ◌-ℤ◌, ◌*ℤ◌, ◌≤ℤ◌, refl, ◌∙◌, inl, inr, arith, Bool, true, false, cond, ◌&&◌, ◌||◌, Some, None}
use Rattle.std.specs.Prelude.{◌↔◌}
use Rattle.std.specs.Option.{IfSome, is_some}
use Rattle.std.proofs.lemmas.Bool.{and_parts}
use Rattle.std.proofs.lemmas.Int.{ints}
use Rattle.c_tree.specs.declared.affine.Affine.{Affine}
use Rattle.affine_sets.specs.declared.difference.Diff.{Diff}
use Rattle.affine_sets.specs.Sums.{Term, terms_at, is_ordered}
use Rattle.affine_sets.specs.Differences.{is_1, is_minus_1, is_difference, Meets, SaysTheSame, HasVariables}
use Rattle.affine_sets.specs.Read.{of_terms}
use Rattle.affine_sets.proofs.Coefficients.{own, second}

-- a choice between two values and none
there : (s t : Bool) (d e : Diff) → is_some (cond s (Some d) (cond t (Some e) None)) ≡ s || t
there true t d e = refl
there false true d e = refl
there false false d e = refl

pub form : (c : ℤ) (ts : List Term) → is_some (of_terms c ts) ≡ is_difference ts
form c [] = refl
form c (t ∷ []) = there (is_1 t.1) (is_minus_1 t.1) (record { x = t.0; y = 0; c = c }) (record { x = 0; y = t.0; c = c })
form c (t ∷ u ∷ []) = there (is_1 t.1 && is_minus_1 u.1) (is_minus_1 t.1 && is_1 u.1) (record { x = t.0; y = u.0; c = c }) (record { x = u.0; y = t.0; c = c })
form c (t ∷ u ∷ w ∷ ts) = refl

-- what holds of both values where their tests hold
either : (s t : Bool) (d e : Diff) (P : Diff → Type 0) → (s ≡ true → P d) → (t ≡ true → P e) → IfSome (cond s (Some d) (cond t (Some e) None)) P
either true t d e P f g = f refl
either false true d e P f g = g refl
either false false d e P f g = tt

one : (z : ℤ) → is_1 z ≡ true → z ≡ pos 1
one z h = grind (arith, ints)

minus_one : (z : ℤ) → is_minus_1 z ≡ true → z ≡ negsuc 0
minus_one z h = grind (arith, ints)

times_1 : (z k : ℤ) → k ≡ pos 1 → k *ℤ z ≡ z
times_1 (pos n) k e = rw e (omega (arith, ints))
times_1 (negsuc n) k e = rw e (omega (arith, ints))

times_minus_1 : (z k : ℤ) → k ≡ negsuc 0 → k *ℤ z ≡ neg_ℤ z
times_minus_1 (pos n) k e = rw e (omega (arith, ints))
times_minus_1 (negsuc n) k e = rw e (omega (arith, ints))

abbrev Says : ℤ → List Term → Diff → Type 0
Says k ts d = (point : ℕ → ℤ) → point 0 ≡ pos 0 → (((k +ℤ terms_at point ts) ≤ℤ pos 0) ↔ Meets point d)

-- p is what the terms come to, and x and y are the values of the variables
both_ways : (k p x y : ℤ) → p ≡ x -ℤ y → (((k +ℤ p) ≤ℤ pos 0) ↔ ((x -ℤ y) ≤ℤ neg_ℤ k))
both_ways k p x y e = (λ h. omega (arith, ints), λ h. omega (arith, ints))

says : (k : ℤ) (ts : List Term) → IfSome (of_terms (neg_ℤ k) ts) (Says k ts)
says k [] = λ point h. both_ways k (pos 0) (point 0) (point 0) (let z = point 0 in omega (arith, ints))
says k (t ∷ []) = either (is_1 t.1) (is_minus_1 t.1) (record { x = t.0; y = 0; c = neg_ℤ k }) (record { x = 0; y = t.0; c = neg_ℤ k }) (Says k (t ∷ []))
    (λ s point h. both_ways k (t.1 *ℤ point t.0 +ℤ pos 0) (point t.0) (point 0) (first (t.1 *ℤ point t.0) (point t.0) (point 0) h (times_1 (point t.0) t.1 (one t.1 s))))
    (λ s point h. both_ways k (t.1 *ℤ point t.0 +ℤ pos 0) (point 0) (point t.0) (last (t.1 *ℤ point t.0) (point t.0) (point 0) h (times_minus_1 (point t.0) t.1 (minus_one t.1 s))))
  where
    first : (p x z : ℤ) → z ≡ pos 0 → p ≡ x → p +ℤ pos 0 ≡ x -ℤ z
    first p x z h e = omega (arith, ints)

    last : (p x z : ℤ) → z ≡ pos 0 → p ≡ neg_ℤ x → p +ℤ pos 0 ≡ z -ℤ x
    last p x z h e = omega (arith, ints)
says k (t ∷ u ∷ []) = either (is_1 t.1 && is_minus_1 u.1) (is_minus_1 t.1 && is_1 u.1) (record { x = t.0; y = u.0; c = neg_ℤ k }) (record { x = u.0; y = t.0; c = neg_ℤ k }) (Says k (t ∷ u ∷ []))
    (λ s point h. let q = and_parts (is_1 t.1) (is_minus_1 u.1) s in
    both_ways k (t.1 *ℤ point t.0 +ℤ (u.1 *ℤ point u.0 +ℤ pos 0)) (point t.0) (point u.0)
    (first (t.1 *ℤ point t.0) (u.1 *ℤ point u.0) (point t.0) (point u.0) (times_1 (point t.0) t.1 (one t.1 q.0)) (times_minus_1 (point u.0) u.1 (minus_one u.1 q.1))))
    (λ s point h. let q = and_parts (is_minus_1 t.1) (is_1 u.1) s in
    both_ways k (t.1 *ℤ point t.0 +ℤ (u.1 *ℤ point u.0 +ℤ pos 0)) (point u.0) (point t.0)
    (last (t.1 *ℤ point t.0) (u.1 *ℤ point u.0) (point t.0) (point u.0) (times_minus_1 (point t.0) t.1 (minus_one t.1 q.0)) (times_1 (point u.0) u.1 (one u.1 q.1))))
  where
    first : (p q x y : ℤ) → p ≡ x → q ≡ neg_ℤ y → p +ℤ (q +ℤ pos 0) ≡ x -ℤ y
    first p q x y e f = omega (arith, ints)

    last : (p q x y : ℤ) → p ≡ neg_ℤ x → q ≡ y → p +ℤ (q +ℤ pos 0) ≡ y -ℤ x
    last p q x y e f = omega (arith, ints)
says k (t ∷ u ∷ w ∷ ts) = tt

pub same : (a : Affine) → IfSome (of_terms (neg_ℤ a.constant) a.terms) (SaysTheSame a)
same a = says a.constant a.terms

pub constant_is : (c : ℤ) (ts : List Term) → IfSome (of_terms c ts) (λ d. d.c ≡ c)
constant_is c [] = refl
constant_is c (t ∷ []) = either (is_1 t.1) (is_minus_1 t.1) (record { x = t.0; y = 0; c = c }) (record { x = 0; y = t.0; c = c }) (λ d. d.c ≡ c) (λ s. refl) (λ s. refl)
constant_is c (t ∷ u ∷ []) = either (is_1 t.1 && is_minus_1 u.1) (is_minus_1 t.1 && is_1 u.1) (record { x = t.0; y = u.0; c = c }) (record { x = u.0; y = t.0; c = c }) (λ d. d.c ≡ c) (λ s. refl) (λ s. refl)
constant_is c (t ∷ u ∷ w ∷ ts) = tt

pub variables : (c : ℤ) (ts : List Term) → is_ordered ts ≡ true → IfSome (of_terms c ts) (HasVariables ts)
variables c [] o = (inl refl, inl refl)
variables c (t ∷ []) o = either (is_1 t.1) (is_minus_1 t.1) (record { x = t.0; y = 0; c = c }) (record { x = 0; y = t.0; c = c }) (HasVariables (t ∷ []))
    (λ s. (inr (own t.0 0 t [] o refl ∙ one t.1 s), inl refl))
    (λ s. (inl refl, inr (own t.0 0 t [] o refl ∙ minus_one t.1 s)))
variables c (t ∷ u ∷ []) o = either (is_1 t.1 && is_minus_1 u.1) (is_minus_1 t.1 && is_1 u.1) (record { x = t.0; y = u.0; c = c }) (record { x = u.0; y = t.0; c = c }) (HasVariables (t ∷ u ∷ []))
    (λ s. let q = and_parts (is_1 t.1) (is_minus_1 u.1) s in (inr (own t.0 0 t (u ∷ []) o refl ∙ one t.1 q.0), inr (second 0 t u [] o ∙ minus_one u.1 q.1)))
    (λ s. let q = and_parts (is_minus_1 t.1) (is_1 u.1) s in (inr (second 0 t u [] o ∙ one u.1 q.1), inr (own t.0 0 t (u ∷ []) o refl ∙ minus_one t.1 q.0)))
variables c (t ∷ u ∷ w ∷ ts) o = tt
