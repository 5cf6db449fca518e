-- What the code finds is what the conditions speak of.
use Rattle.std.proofs.Common.{◌≡◌, Bool, true, false, ◌&&◌, pos, neg_ℤ, Option, Some, None, refl, ap, ◌∙◌}
use Rattle.std.specs.Prelude.{if◌then◌else◌}
use Rattle.std.specs.Option.{option_and_then}
use Rattle.std.specs.Int.{int_min, int_max}
use Rattle.c_tree.specs.Plain.{Word, PlainExpr, un, bin, least, greatest}
use Rattle.acceptance.specs.Affine.{is_small, constant as the_constant, coefficient, constant_bin, coefficient_bin, holds_throughout, Intervals, interval_bin, interval, is_narrow}
use Rattle.affine_checks.specs.Linear.{kept_constant, constant, has_small_constant, kept_terms, terms, kept_interval, narrow}

abbrev pub where_true : {A : Type 0} → Bool → A → Option A
where_true true a = Some a
where_true false a = None

one : {A B : Type 0} (b c : Bool) (a : A) (f : A → Option B) (y : B) (o : Option A) → o ≡ where_true b a → f a ≡ where_true c y → option_and_then f o ≡ where_true (c && b) y
one true true a f y o e g = ap (option_and_then f) e ∙ g
one true false a f y o e g = ap (option_and_then f) e ∙ g
one false true a f y o e g = ap (option_and_then f) e
one false false a f y o e g = ap (option_and_then f) e

two : {A B C : Type 0} (b c d : Bool) (a : A) (a' : B) (f : A → B → Option C) (y : C) (o : Option A) (p : Option B) → o ≡ where_true b a → p ≡ where_true c a' → f a a' ≡ where_true d y
    → option_and_then (λ r. option_and_then (f r) p) o ≡ where_true (d && (b && c)) y
two true true true a a' f y o p e g h = ap (option_and_then (λ r. option_and_then (f r) p)) e ∙ ap (option_and_then (f a)) g ∙ h
two true true false a a' f y o p e g h = ap (option_and_then (λ r. option_and_then (f r) p)) e ∙ ap (option_and_then (f a)) g ∙ h
two true false true a a' f y o p e g h = ap (option_and_then (λ r. option_and_then (f r) p)) e ∙ ap (option_and_then (f a)) g
two true false false a a' f y o p e g h = ap (option_and_then (λ r. option_and_then (f r) p)) e ∙ ap (option_and_then (f a)) g
two false c true a a' f y o p e g h = ap (option_and_then (λ r. option_and_then (f r) p)) e
two false c false a a' f y o p e g h = ap (option_and_then (λ r. option_and_then (f r) p)) e

kept_is : {A : Type 0} (b : Bool) (a : A) → (if b then Some a else None) ≡ where_true b a
kept_is true a = refl
kept_is false a = refl

-- ---- intervals

pub narrow_is : (rs : Intervals) (e : PlainExpr) → narrow rs e ≡ where_true (holds_throughout (is_narrow rs) e) (interval rs e)
narrow_is rs (un op a) = one _ (is_narrow rs (un op a)) _ (λ i. kept_interval (neg_ℤ i.1, neg_ℤ i.0)) _ _ (narrow_is rs a) (kept_is _ _)
narrow_is rs (bin op a b) = two _ _ (is_narrow rs (bin op a b)) _ _ (λ i j. kept_interval (interval_bin op i j)) _ _ _ (narrow_is rs a) (narrow_is rs b) (kept_is _ _)
narrow_is rs (least a b) =
    two _ _ (is_narrow rs (least a b)) _ _ (λ i j. kept_interval (int_min i.0 j.0, int_min i.1 j.1)) _ _ _ (narrow_is rs a) (narrow_is rs b) (kept_is _ _)
narrow_is rs (greatest a b) =
    two _ _ (is_narrow rs (greatest a b)) _ _ (λ i j. kept_interval (int_max i.0 j.0, int_max i.1 j.1)) _ _ _ (narrow_is rs a) (narrow_is rs b) (kept_is _ _)
narrow_is rs e = kept_is (is_narrow rs e) (interval rs e)

-- ---- constants and coefficients

abbrev constant_fits : PlainExpr → Bool
constant_fits e = is_small (the_constant e)

pub constant_is : (e : PlainExpr) → constant e ≡ where_true (has_small_constant e) (the_constant e)
constant_is (un op a) = one _ (constant_fits (un op a)) _ (λ k. kept_constant (neg_ℤ k)) _ _ (constant_is a) (kept_is _ _)
constant_is (bin op a b) = two _ _ (constant_fits (bin op a b)) _ _ (λ k l. kept_constant (constant_bin op k l)) _ _ _ (constant_is a) (constant_is b) (kept_is _ _)
constant_is (least a b) = two _ _ (constant_fits (least a b)) _ _ (λ k l. kept_constant (pos 0)) _ _ _ (constant_is a) (constant_is b) refl
constant_is (greatest a b) = two _ _ (constant_fits (greatest a b)) _ _ (λ k l. kept_constant (pos 0)) _ _ _ (constant_is a) (constant_is b) refl
constant_is e = kept_is (constant_fits e) (the_constant e)

abbrev both_small : Word → PlainExpr → Bool
both_small x e = is_small (the_constant e) && is_small (coefficient x e)

abbrev pub both_throughout : Word → PlainExpr → Bool
both_throughout x = holds_throughout (λ e. is_small (the_constant e) && is_small (coefficient x e))

pub terms_are : (x : Word) (e : PlainExpr) → terms x e ≡ where_true (both_throughout x e) (the_constant e, coefficient x e)
terms_are x (un op a) = one _ (both_small x (un op a)) _ (λ r. kept_terms (neg_ℤ r.0) (neg_ℤ r.1)) _ _ (terms_are x a) (kept_is _ _)
terms_are x (bin op a b) =
    two _ _ (both_small x (bin op a b)) _ _ (λ r s. kept_terms (constant_bin op r.0 s.0) (coefficient_bin op r.0 r.1 s.0 s.1)) _ _ _
    (terms_are x a) (terms_are x b) (kept_is _ _)
terms_are x (least a b) = two _ _ (both_small x (least a b)) _ _ (λ r s. kept_terms (pos 0) (pos 0)) _ _ _ (terms_are x a) (terms_are x b) refl
terms_are x (greatest a b) = two _ _ (both_small x (greatest a b)) _ _ (λ r s. kept_terms (pos 0) (pos 0)) _ _ _ (terms_are x a) (terms_are x b) refl
terms_are x e = kept_is (both_small x e) (the_constant e, coefficient x e)

-- ---- two tests throughout, where one holds

leaf : (b d : Bool) → b ≡ true → (b && d) ≡ d
leaf true d h = refl
leaf false d h = absurd (let f : ⊥ = cc in f)

node : (b c d r s : Bool) → (b && c) ≡ true → (c ≡ true → r ≡ s) → ((b && d) && r) ≡ (d && s)
node true true d r s h f = ap (λ t. d && t) (f refl)
node true false d r s h f = absurd (let g : ⊥ = cc in g)
node false c d r s h f = absurd (let g : ⊥ = cc in g)

fork : (b c c' d r s r' s' : Bool) → (b && (c && c')) ≡ true → (c ≡ true → r ≡ s) → (c' ≡ true → r' ≡ s') → ((b && d) && (r && r')) ≡ (d && (s && s'))
fork true true true d r s r' s' h f g = ap (λ t. d && (t && r')) (f refl) ∙ ap (λ t. d && (s && t)) (g refl)
fork true true false d r s r' s' h f g = absurd (let k : ⊥ = cc in k)
fork true false c' d r s r' s' h f g = absurd (let k : ⊥ = cc in k)
fork false c c' d r s r' s' h f g = absurd (let k : ⊥ = cc in k)

pub other_holds : (p q : PlainExpr → Bool) (e : PlainExpr) → holds_throughout p e ≡ true → holds_throughout (λ d. p d && q d) e ≡ holds_throughout q e
other_holds p q (un op a) h = node (p (un op a)) (holds_throughout p a) (q (un op a)) _ _ h (other_holds p q a)
other_holds p q (bin op a b) h = fork (p (bin op a b)) (holds_throughout p a) (holds_throughout p b) (q (bin op a b)) _ _ _ _ h (other_holds p q a) (other_holds p q b)
other_holds p q (least a b) h = fork (p (least a b)) (holds_throughout p a) (holds_throughout p b) (q (least a b)) _ _ _ _ h (other_holds p q a) (other_holds p q b)
other_holds p q (greatest a b) h = fork (p (greatest a b)) (holds_throughout p a) (holds_throughout p b) (q (greatest a b)) _ _ _ _ h (other_holds p q a) (other_holds p q b)
other_holds p q e h = leaf (p e) (q e) h
