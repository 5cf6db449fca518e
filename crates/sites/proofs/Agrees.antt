-- Where terms are small throughout, the code finds those that the classes speak of.
use Rattle.std.proofs.Common.{◌≡◌, Bool, true, false, not, cond, ◌&&◌, ◌||◌, List, [], ◌∷◌, length, filter, ℤ, pos, ◌-ℤ◌, refl, ap, ◌∙◌, nat_le}
use Rattle.std.specs.Prelude.{if◌then◌else◌}
use Rattle.std.specs.List.{list_all, list_any, AllByRecursion}
use Rattle.std.specs.Ordering.{int_eq}
use Rattle.c_tree.specs.Plain.{Word, PlainExpr, PlainExprs, no_exprs, more_exprs, PlainTest}
use Rattle.acceptance.specs.Affine.{constant, coefficient, is_small, has_small}
use Rattle.affine_checks.specs.Linear.{has_small_constant}
use Rattle.affine_checks.proofs.Terms.{where_true, constant_is, terms_are, other_holds}
use Rattle.sites.specs.Classes.{Terms, exactly, form_from, is_plain, are_plain, is_good_test, are_good_tests, is_good_branch, are_good_frames, is_good, names, exprs_name, tests_name, frames_name, occurs, names_around, loops_in, is_near, is_plain_form, is_difference_form, is_unequal, with_term, number, is_irregular, class_by}
use Rattle.sites.specs.Sites.{Frame, in_loop, in_branch, Site, around, is_read, is_write}
use Rattle.sites.specs.Small.{where_small, constant_or, coefficient_or}
use Rattle.sites.specs.declared.class.Class.TheVariants.{Difference, Counted, Inspected}
use Rattle.sites.specs.declared.form.Form.{Form}
use Rattle.sites.specs.declared.form.Form.TheVariants.{Constant}

-- ---- what is small

-- the constant and the coefficients of these names
pub record Small (xs : List Word) (e : PlainExpr) : Type 0 where
  pub constant_small : has_small_constant e ≡ true
  pub coefficients_small : AllByRecursion (λ x. has_small x e ≡ true) xs

abbrev pub AllSmall : List Word → PlainExprs → Type 0
AllSmall xs no_exprs = Unit {0}
AllSmall xs (more_exprs e es) = Small xs e × AllSmall xs es

abbrev pub TestsSmall : List Word → List PlainTest → Type 0
TestsSmall xs [] = Unit {0}
TestsSmall xs (c ∷ cs) = Small xs c.1 × (Small xs c.2 × TestsSmall xs cs)

abbrev pub FramesSmall : List Word → List Frame → Type 0
FramesSmall ints [] = Unit {0}
FramesSmall ints (in_loop l ∷ fs) = Small (names_around ints fs) l.lo × (Small (names_around ints fs) l.hi × FramesSmall ints fs)
FramesSmall ints (in_branch first cs ∷ fs) = TestsSmall (names_around ints fs) cs × FramesSmall ints fs

pub record SiteSmall (ints : List Word) (s : Site) : Type 0 where
  pub frames_small : FramesSmall ints (around s)
  pub subscripts_small : AllSmall (names_around ints (around s)) s.reach.at

-- ---- one expression

constant_same : (e : PlainExpr) → has_small_constant e ≡ true → where_small.constant_in e ≡ constant e
constant_same e h = ap constant_or (constant_is e ∙ ap (λ b. where_true b (constant e)) h)

coefficient_same : (x : Word) (e : PlainExpr) → has_small_constant e ≡ true → has_small x e ≡ true → where_small.coefficient_in x e ≡ coefficient x e
coefficient_same x e h g =
    ap coefficient_or (terms_are x e ∙ ap (λ b. where_true b (constant e, coefficient x e))
    (other_holds (λ d. is_small (constant d)) (λ d. is_small (coefficient x d)) e h ∙ g))

coefficients_same : (xs : List Word) (e : PlainExpr) → has_small_constant e ≡ true → AllByRecursion (λ x. has_small x e ≡ true) xs
    → AllByRecursion (λ x. where_small.coefficient_in x e ≡ coefficient x e) xs
coefficients_same [] e h g = tt
coefficients_same (x ∷ xs) e h g = (coefficient_same x e h g.0, coefficients_same xs e h g.1)

form_same : (f : Form) (c d : Word → ℤ) (xs : List Word) → AllByRecursion (λ x. c x ≡ d x) xs → form_from f c xs ≡ form_from f d xs
form_same f c d [] h = refl
form_same f c d (x ∷ xs) h = ap (λ z. form_from (with_term f z) c xs) h.0 ∙ form_same (with_term f (d x)) c d xs h.1

differences_same : (a b c d : Word → ℤ) (xs : List Word) → AllByRecursion (λ x. a x ≡ c x) xs → AllByRecursion (λ x. b x ≡ d x) xs → AllByRecursion (λ x. (a x -ℤ b x) ≡ (c x -ℤ d x)) xs
differences_same a b c d [] h g = tt
differences_same a b c d (x ∷ xs) h g = (ap (λ z. z -ℤ b x) h.0 ∙ ap (λ z. c x -ℤ z) g.0, differences_same a b c d xs h.1 g.1)

plain_same : (xs : List Word) (e : PlainExpr) → Small xs e → is_plain where_small xs e ≡ is_plain exactly xs e
plain_same xs e h =
    ap (λ z. is_near z && is_plain_form (form_from Constant (λ x. where_small.coefficient_in x e) xs)) (constant_same e h.constant_small)
    ∙ ap (λ f. is_near (constant e) && is_plain_form f) (form_same Constant (λ x. where_small.coefficient_in x e) (λ x. coefficient x e) xs (coefficients_same xs e h.constant_small h.coefficients_small))

all_plain_same : (xs : List Word) (es : PlainExprs) → AllSmall xs es → are_plain where_small xs es ≡ are_plain exactly xs es
all_plain_same xs no_exprs h = refl
all_plain_same xs (more_exprs e es) h = ap (λ b. b && are_plain where_small xs es) (plain_same xs e h.0) ∙ ap (λ b. is_plain exactly xs e && b) (all_plain_same xs es h.1)

test_same : (xs : List Word) (c : PlainTest) → Small xs c.1 → Small xs c.2 → is_good_test where_small xs c ≡ is_good_test exactly xs c
test_same xs c h g =
    let f = form_from Constant (λ x. where_small.coefficient_in x c.1 -ℤ where_small.coefficient_in x c.2) xs in
    ap (λ z. not (is_unequal c.0) && (is_near (z -ℤ where_small.constant_in c.2) && is_difference_form f)) (constant_same c.1 h.constant_small)
    ∙ ap (λ z. not (is_unequal c.0) && (is_near (constant c.1 -ℤ z) && is_difference_form f)) (constant_same c.2 g.constant_small)
    ∙ ap (λ k. not (is_unequal c.0) && (is_near (constant c.1 -ℤ constant c.2) && is_difference_form k))
    (form_same Constant (λ x. where_small.coefficient_in x c.1 -ℤ where_small.coefficient_in x c.2) (λ x. coefficient x c.1 -ℤ coefficient x c.2) xs
    (differences_same (λ x. where_small.coefficient_in x c.1) (λ x. where_small.coefficient_in x c.2) (λ x. coefficient x c.1) (λ x. coefficient x c.2) xs
    (coefficients_same xs c.1 h.constant_small h.coefficients_small) (coefficients_same xs c.2 g.constant_small g.coefficients_small)))

tests_same : (xs : List Word) (cs : List PlainTest) → TestsSmall xs cs → are_good_tests where_small xs cs ≡ are_good_tests exactly xs cs
tests_same xs [] h = refl
tests_same xs (c ∷ cs) h = ap (λ b. b && are_good_tests where_small xs cs) (test_same xs c h.0 h.1.0) ∙ ap (λ b. is_good_test exactly xs c && b) (tests_same xs cs h.1.1)

frames_same : (ints : List Word) (fs : List Frame) → FramesSmall ints fs → are_good_frames where_small ints fs ≡ are_good_frames exactly ints fs
frames_same ints [] h = refl
frames_same ints (in_loop l ∷ fs) h =
    let xs = names_around ints fs in
    ap (λ b. b && (is_plain where_small xs l.hi && are_good_frames where_small ints fs)) (plain_same xs l.lo h.0)
    ∙ ap (λ b. is_plain exactly xs l.lo && (b && are_good_frames where_small ints fs)) (plain_same xs l.hi h.1.0)
    ∙ ap (λ b. is_plain exactly xs l.lo && (is_plain exactly xs l.hi && b)) (frames_same ints fs h.1.1)
frames_same ints (in_branch first cs ∷ fs) h =
    let xs = names_around ints fs in
    ap (λ b. is_good_branch first cs && (b && are_good_frames where_small ints fs)) (tests_same xs cs h.0)
    ∙ ap (λ b. is_good_branch first cs && (are_good_tests exactly xs cs && b)) (frames_same ints fs h.1)

good_same : (ints : List Word) (s : Site) → SiteSmall ints s → is_good where_small ints (around s) s.reach.at ≡ is_good exactly ints (around s) s.reach.at
good_same ints s h =
    let fs = around s in
    let xs = names_around ints fs in
    ap (λ b. nat_le (loops_in fs) 3 && (b && are_plain where_small xs s.reach.at)) (frames_same ints fs h.frames_small)
    ∙ ap (λ b. nat_le (loops_in fs) 3 && (are_good_frames exactly ints fs && b)) (all_plain_same xs s.reach.at h.subscripts_small)

-- ---- occurrences, of each of the names in turn

abbrev Same : (Word → Bool) → (Word → Bool) → List Word → Type 0
Same p q xs = AllByRecursion (λ x. p x ≡ q x) xs

either_same : (p q r s : Word → Bool) (xs : List Word) → Same p q xs → Same r s xs → Same (λ x. p x || r x) (λ x. q x || s x) xs
either_same p q r s [] h g = tt
either_same p q r s (x ∷ xs) h g = (ap (λ b. b || r x) h.0 ∙ ap (λ b. q x || b) g.0, either_same p q r s xs h.1 g.1)

itself_same : (p : Word → Bool) (xs : List Word) → Same p p xs
itself_same p [] = tt
itself_same p (x ∷ xs) = (refl, itself_same p xs)

ints_part : (P : Word → Type 0) (ints : List Word) (fs : List Frame) → AllByRecursion P (names_around ints fs) → AllByRecursion P ints
ints_part P ints [] h = h
ints_part P ints (in_loop l ∷ fs) h = ints_part P ints fs h.1
ints_part P ints (in_branch first cs ∷ fs) h = ints_part P ints fs h

names_same : (xs : List Word) (e : PlainExpr) → has_small_constant e ≡ true → AllByRecursion (λ x. has_small x e ≡ true) xs → Same (λ x. names where_small x e) (λ x. names exactly x e) xs
names_same [] e h g = tt
names_same (x ∷ xs) e h g = (ap (λ z. not (int_eq z (pos 0))) (coefficient_same x e h g.0), names_same xs e h g.1)

module _ (ints : List Word) where
  named_same : (fs : List Frame) (e : PlainExpr) → Small (names_around ints fs) e → Same (λ x. names where_small x e) (λ x. names exactly x e) ints
  named_same fs e h = names_same ints e h.constant_small (ints_part (λ x. has_small x e ≡ true) ints fs h.coefficients_small)

  exprs_named : (fs : List Frame) (es : PlainExprs) → AllSmall (names_around ints fs) es → Same (λ x. exprs_name where_small x es) (λ x. exprs_name exactly x es) ints
  exprs_named fs no_exprs h = itself_same (λ x. false) ints
  exprs_named fs (more_exprs e es) h =
      either_same (λ x. names where_small x e) (λ x. names exactly x e) (λ x. exprs_name where_small x es) (λ x. exprs_name exactly x es) ints (named_same fs e h.0) (exprs_named fs es h.1)

  tests_named : (fs : List Frame) (cs : List PlainTest) → TestsSmall (names_around ints fs) cs → Same (λ x. tests_name where_small x cs) (λ x. tests_name exactly x cs) ints
  tests_named fs [] h = itself_same (λ x. false) ints
  tests_named fs (c ∷ cs) h =
      either_same (λ x. names where_small x c.1) (λ x. names exactly x c.1) (λ x. names where_small x c.2 || tests_name where_small x cs) (λ x. names exactly x c.2 || tests_name exactly x cs) ints
      (named_same fs c.1 h.0)
      (either_same (λ x. names where_small x c.2) (λ x. names exactly x c.2) (λ x. tests_name where_small x cs) (λ x. tests_name exactly x cs) ints (named_same fs c.2 h.1.0) (tests_named fs cs h.1.1))

  frames_named : (fs : List Frame) → FramesSmall ints fs → Same (λ x. frames_name where_small x fs) (λ x. frames_name exactly x fs) ints
  frames_named [] h = itself_same (λ x. false) ints
  frames_named (in_loop l ∷ fs) h =
      either_same (λ x. names where_small x l.lo) (λ x. names exactly x l.lo) (λ x. names where_small x l.hi || frames_name where_small x fs) (λ x. names exactly x l.hi || frames_name exactly x fs) ints
      (named_same fs l.lo h.0)
      (either_same (λ x. names where_small x l.hi) (λ x. names exactly x l.hi) (λ x. frames_name where_small x fs) (λ x. frames_name exactly x fs) ints (named_same fs l.hi h.1.0) (frames_named fs h.1.1))
  frames_named (in_branch first cs ∷ fs) h =
      either_same (λ x. tests_name where_small x cs) (λ x. tests_name exactly x cs) (λ x. frames_name where_small x fs) (λ x. frames_name exactly x fs) ints (tests_named fs cs h.0) (frames_named fs h.1)

  abbrev occurs_at : Terms → Word → Site → Bool
  occurs_at t x s = occurs t x (around s) s.reach.at

  site_named : (s : Site) → SiteSmall ints s → Same (λ x. occurs_at where_small x s) (λ x. occurs_at exactly x s) ints
  site_named s h =
      either_same (λ x. frames_name where_small x (around s)) (λ x. frames_name exactly x (around s)) (λ x. exprs_name where_small x s.reach.at) (λ x. exprs_name exactly x s.reach.at) ints
      (frames_named (around s) h.frames_small) (exprs_named (around s) s.reach.at h.subscripts_small)

  sites_named : (ss : List Site) → AllByRecursion (SiteSmall ints) ss → Same (λ x. list_any (occurs_at where_small x) ss) (λ x. list_any (occurs_at exactly x) ss) ints
  sites_named [] h = itself_same (λ x. false) ints
  sites_named (s ∷ ss) h =
      either_same (λ x. occurs_at where_small x s) (λ x. occurs_at exactly x s) (λ x. list_any (occurs_at where_small x) ss) (λ x. list_any (occurs_at exactly x) ss) ints (site_named s h.0) (sites_named ss h.1)

  all_good_same : (ss : List Site) → AllByRecursion (SiteSmall ints) ss
      → list_all (λ s. is_good where_small ints (around s) s.reach.at) ss ≡ list_all (λ s. is_good exactly ints (around s) s.reach.at) ss
  all_good_same [] h = refl
  all_good_same (s ∷ ss) h =
      ap (λ b. b && list_all (λ s. is_good where_small ints (around s) s.reach.at) ss) (good_same ints s h.0)
      ∙ ap (λ b. is_good exactly ints (around s) s.reach.at && b) (all_good_same ss h.1)

filter_same : (p q : Word → Bool) (xs : List Word) → Same p q xs → filter p xs ≡ filter q xs
filter_same p q [] h = refl
filter_same p q (x ∷ xs) h = ap (λ b. cond b (x ∷ filter p xs) (filter p xs)) h.0 ∙ ap (λ ys. cond (q x) (x ∷ ys) ys) (filter_same p q xs h.1)

-- ---- the class

pub class_same : (ints : List Word) (ss : List Site) → AllByRecursion (SiteSmall ints) ss → class_by where_small ints ss ≡ class_by exactly ints ss
class_same ints ss h =
    ap (λ b. if list_any (λ s. is_irregular s.reach) ss then Inspected else if nat_le (number is_write ss) 4 && (nat_le (number is_read ss) 8
    && (b && nat_le (length (filter (λ x. list_any (λ s. occurs where_small x (around s) s.reach.at) ss) ints)) 4)) then Difference else Counted) (all_good_same ints ss h)
    ∙ ap (λ (xs : List Word). if list_any (λ s. is_irregular s.reach) ss then Inspected else if nat_le (number is_write ss) 4 && (nat_le (number is_read ss) 8
    && (list_all (λ s. is_good exactly ints (around s) s.reach.at) ss && nat_le (length xs) 4)) then Difference else Counted)
    (filter_same (λ x. list_any (λ s. occurs where_small x (around s) s.reach.at) ss) (λ x. list_any (λ s. occurs exactly x (around s) s.reach.at) ss) ints (sites_named ints ss h))
