-- The extents of a good head are sums over the parameters, with small terms.
use Rattle.std.proofs.Common.{◌≡◌, ◌≤◌, ◌<◌, ◌^◌, ℕ, zero, suc, Bool, true, false, ◌&&◌, ◌||◌, nat_eq, nat_lt, nat_le, List, [], ◌∷◌, map, length, slice_get, Some, ℤ, pos, unsigned_abs, refl, sym, ap, ◌∙◌, subst, arith}
use Rattle.std.specs.Prelude.{bytes_eq}
use Rattle.std.specs.List.{list_all}
use Rattle.std.proofs.lemmas.Bool.{and_parts, and_from, not-false}
use Rattle.std.proofs.lemmas.List.Folds.{list_all-append}
use Rattle.std.proofs.lemmas.Option.{same_Some}
use Rattle.c_tree.specs.Names.{ints_in}
use Rattle.c_tree.specs.Plain.{Word, PlainExpr, lit, var, cell, un, bin, cast, test, umin, umax, least, greatest, widen, big, PlainExprs, no_exprs, more_exprs, PlainParam, int_param, array_param, PlainUnit}
use Rattle.c_tree.specs.declared.affine.Affine.{Affine}
use Rattle.c_tree.specs.declared.frame.ArrayInfo.{ArrayInfo}
use Rattle.acceptance.specs.Affine.{has_name, is_affine, is_affine_un, is_affine_bin, constant as constant_of, coefficient, holds_throughout, lies_in, is_small, has_small, ints_small, has_small_terms}
use Rattle.acceptance.specs.Items.{Scope, is_int, is_signed_name}
use Rattle.acceptance.specs.Head.{list_of, extents_in, head_scope, extent_not_affine, extent_terms_too_large}
use Rattle.affine_sets.specs.Expressions.{StandsFor, is_small_at, is_sum, over}
use Rattle.affine_sets.specs.Sums.{Term, coefficient_at, is_ordered_from, has_variables_to}
use Rattle.affine_sets.proofs.Coefficients.{own, beside}
use Rattle.affine_sets.proofs.Limits.{lies_in_more}
use Rattle.affine_sets.proofs.Ordered.{parts}
use Rattle.data_file.specs.Conditions.{IsSmallSum}
use Rattle.frames.specs.Built.{are_sums, have_sums, AreSums, HaveSums}
use Rattle.frames.proofs.RangeLaws.{small}

-- ---- tests throughout an expression

module _ (p q r : PlainExpr → Bool) (f : (d : PlainExpr) → p d ≡ true → q d ≡ true → r d ≡ true) where
  two_parts : (d a b : PlainExpr) → (holds_throughout p a ≡ true → holds_throughout q a ≡ true → holds_throughout r a ≡ true)
      → (holds_throughout p b ≡ true → holds_throughout q b ≡ true → holds_throughout r b ≡ true)
      → p d && (holds_throughout p a && holds_throughout p b) ≡ true → q d && (holds_throughout q a && holds_throughout q b) ≡ true
      → r d && (holds_throughout r a && holds_throughout r b) ≡ true
  two_parts d a b left right h k =
      let x = and_parts (p d) (holds_throughout p a && holds_throughout p b) h in
      let y = and_parts (q d) (holds_throughout q a && holds_throughout q b) k in
      let s = and_parts (holds_throughout p a) (holds_throughout p b) x.1 in
      let t = and_parts (holds_throughout q a) (holds_throughout q b) y.1 in
      and_from (r d) (holds_throughout r a && holds_throughout r b) (f d x.0 y.0) (and_from (holds_throughout r a) (holds_throughout r b) (left s.0 t.0) (right s.1 t.1))

  throughout : (e : PlainExpr) → holds_throughout p e ≡ true → holds_throughout q e ≡ true → holds_throughout r e ≡ true
  throughout (lit n) h k = f (lit n) h k
  throughout (var x) h k = f (var x) h k
  throughout (cell x at) h k = f (cell x at) h k
  throughout (un op a) h k =
      let x = and_parts (p (un op a)) (holds_throughout p a) h in
      let y = and_parts (q (un op a)) (holds_throughout q a) k in
      and_from (r (un op a)) (holds_throughout r a) (f (un op a) x.0 y.0) (throughout a x.1 y.1)
  throughout (bin op a b) h k = two_parts (bin op a b) a b (throughout a) (throughout b) h k
  throughout (cast a) h k = f (cast a) h k
  throughout (test rel a b) h k = f (test rel a b) h k
  throughout (umin a b) h k = f (umin a b) h k
  throughout (umax a b) h k = f (umax a b) h k
  throughout (least a b) h k = two_parts (least a b) a b (throughout a) (throughout b) h k
  throughout (greatest a b) h k = two_parts (greatest a b) a b (throughout a) (throughout b) h k
  throughout (widen a) h k = f (widen a) h k
  throughout (big high low) h k = f (big high low) h k

at_top : (p : PlainExpr → Bool) (e : PlainExpr) → holds_throughout p e ≡ true → p e ≡ true
at_top p (lit n) h = h
at_top p (var x) h = h
at_top p (cell x at) h = h
at_top p (un op a) h = (and_parts (p (un op a)) (holds_throughout p a) h).0
at_top p (bin op a b) h = (and_parts (p (bin op a b)) (holds_throughout p a && holds_throughout p b) h).0
at_top p (cast a) h = h
at_top p (test rel a b) h = h
at_top p (umin a b) h = h
at_top p (umax a b) h = h
at_top p (least a b) h = (and_parts (p (least a b)) (holds_throughout p a && holds_throughout p b) h).0
at_top p (greatest a b) h = (and_parts (p (greatest a b)) (holds_throughout p a && holds_throughout p b) h).0
at_top p (widen a) h = h
at_top p (big high low) h = h

-- ---- small throughout

wider : (z : ℤ) → is_small z ≡ true → lies_in (pos (2 ^ 44)) z ≡ true
wider z h = lies_in_more (2 ^ 20) (2 ^ 44) (omega arith) z h

small_throughout : (names : List Word) (e : PlainExpr) → holds_throughout (λ d. is_small (constant_of d)) e ≡ true → list_all (λ x. has_small x e) names ≡ true → holds_throughout (is_small_at names) e ≡ true
small_throughout [] e h k =
    let p : PlainExpr → Bool = λ d. is_small (constant_of d) in
    throughout p p (is_small_at []) (λ d a b. and_from (lies_in (pos (2 ^ 44)) (constant_of d)) true (wider (constant_of d) a) refl) e h h
small_throughout (x ∷ xs) e h k =
    let l = and_parts (has_small x e) (list_all (λ y. has_small y e) xs) k in
    throughout (is_small_at xs) (λ d. is_small (coefficient x d)) (is_small_at (x ∷ xs)) (λ d a b. one_more d a b) e (small_throughout xs e h l.1) l.0
  where
    one_more : (d : PlainExpr) → is_small_at xs d ≡ true → is_small (coefficient x d) ≡ true → is_small_at (x ∷ xs) d ≡ true
    one_more d a b =
        let all = list_all (λ y. lies_in (pos (2 ^ 44)) (coefficient y d)) xs in
        let s = and_parts (lies_in (pos (2 ^ 44)) (constant_of d)) all a in
        and_from (lies_in (pos (2 ^ 44)) (constant_of d)) (lies_in (pos (2 ^ 44)) (coefficient x d) && all) s.0 (and_from (lies_in (pos (2 ^ 44)) (coefficient x d)) all (wider (coefficient x d) b) s.1)

ints_as_names : (e : PlainExpr) (ps : List PlainParam) → ints_small e ps ≡ list_all (λ x. has_small x e) (ints_in ps)
ints_as_names e [] = refl
ints_as_names e (int_param x ∷ ps) = ap (λ b. has_small x e && b) (ints_as_names e ps)
ints_as_names e (array_param x constant extents ∷ ps) = ints_as_names e ps

-- ---- affine over the names of the parameters

ints_alone : (ps : List PlainParam) (x : Word) → is_int ps x ≡ is_int (map int_param (ints_in ps)) x
ints_alone [] x = refl
ints_alone (int_param y ∷ ps) x = ap (λ b. bytes_eq y x || b) (ints_alone ps x)
ints_alone (array_param y constant extents ∷ ps) x = ints_alone ps x

module _ (sc sd : Scope) (same : (x : Word) → is_signed_name sc x ≡ is_signed_name sd x) where
  same_affine : (e : PlainExpr) → is_affine sc e ≡ is_affine sd e
  same_affine (lit n) = refl
  same_affine (var x) = same x
  same_affine (cell x at) = refl
  same_affine (un op a) = ap (λ b. is_affine_un op && b) (same_affine a)
  same_affine (bin op a b) =
      ap (λ t. is_affine_bin op (has_name a) (has_name b) && (t && is_affine sc b)) (same_affine a) ∙ ap (λ t. is_affine_bin op (has_name a) (has_name b) && (is_affine sd a && t)) (same_affine b)
  same_affine (cast a) = refl
  same_affine (test rel a b) = refl
  same_affine (umin a b) = refl
  same_affine (umax a b) = refl
  same_affine (least a b) = refl
  same_affine (greatest a b) = refl
  same_affine (widen a) = refl
  same_affine (big high low) = refl

-- ---- an extent

-- its constant throughout, and the coefficient of each name throughout
record SmallParts (u : PlainUnit) (e : PlainExpr) : Type 0 where
  constants : holds_throughout (λ d. is_small (constant_of d)) e ≡ true
  coefficients : list_all (λ x. has_small x e) (ints_in u.params) ≡ true

small_parts : (u : PlainUnit) (e : PlainExpr) → has_small_terms (head_scope u) e ≡ true → SmallParts u e
small_parts u e h =
    let k = and_parts (holds_throughout (λ d. is_small (constant_of d)) e) (ints_small e u.params) h in
    record { constants = k.0; coefficients = sym (ints_as_names e u.params) ∙ k.1 }

extent_is_sum : (u : PlainUnit) (e : PlainExpr) → is_affine (head_scope u) e ≡ true → has_small_terms (head_scope u) e ≡ true → is_sum (ints_in u.params) e ≡ true
extent_is_sum u e h k =
    let s = small_parts u e k in
    and_from (is_affine (over (ints_in u.params)) e) (holds_throughout (is_small_at (ints_in u.params)) e)
    (sym (same_affine (head_scope u) (over (ints_in u.params)) (λ x. ints_alone u.params x) e) ∙ h)
    (small_throughout (ints_in u.params) e s.constants s.coefficients)

-- ---- a term has the coefficient of a name

term_own : (v : ℕ) (ts : List Term) (k : ℕ) (t : Term) → is_ordered_from v ts ≡ true → slice_get ts k ≡ Some t → (coefficient_at t.0 ts ≡ t.1) × (v ≤ t.0)
term_own v [] k t o g = cc
term_own v (s ∷ ts) zero t o g =
    let P : Term → Type 0 = λ w. (coefficient_at w.0 (s ∷ ts) ≡ w.1) × (v ≤ w.0) in
    subst P (same_Some s t g) (own s.0 v s ts o refl, low s.0 (parts v s ts o).from)
  where
    low : (w : ℕ) → nat_le v w ≡ true → v ≤ w
    low w h = grind arith
term_own v (s ∷ ts) (suc k) t o g =
    let p = parts v s ts o in
    let r = term_own (suc s.0) ts k t p.rest g in
    (beside t.0 s ts (before s.0 t.0 r.1) ∙ r.0, low s.0 t.0 p.from r.1)
  where
    before : (m n : ℕ) → suc m ≤ n → nat_eq m n ≡ false
    before m n h = grind arith

    low : (m n : ℕ) → nat_le v m ≡ true → suc m ≤ n → v ≤ n
    low m n h l = grind arith

term_variable : (n : ℕ) (ts : List Term) (k : ℕ) (t : Term) → has_variables_to n ts ≡ true → slice_get ts k ≡ Some t → (0 < t.0) × (t.0 ≤ n)
term_variable n [] k t h g = cc
term_variable n (s ∷ ts) zero t h g =
    let a = and_parts (nat_lt 0 s.0 && nat_le s.0 n) (has_variables_to n ts) h in
    let b = and_parts (nat_lt 0 s.0) (nat_le s.0 n) a.0 in
    let P : Term → Type 0 = λ w. (0 < w.0) × (w.0 ≤ n) in
    subst P (same_Some s t g) (some s.0 b.0, few s.0 b.1)
  where
    some : (v : ℕ) → nat_lt 0 v ≡ true → 0 < v
    some v e = grind arith

    few : (v : ℕ) → nat_le v n ≡ true → v ≤ n
    few v e = grind arith
term_variable n (s ∷ ts) (suc k) t h g = term_variable n ts k t (and_parts (nat_lt 0 s.0 && nat_le s.0 n) (has_variables_to n ts) h).1 g

one_of : (p : Word → Bool) (names : List Word) → list_all p names ≡ true → (i : ℕ) → i < length names → (x : Word) × (slice_get names i ≡ Some x) × (p x ≡ true)
one_of p [] h i l = absurd (omega arith)
one_of p (x ∷ xs) h zero l = (x, refl, (and_parts (p x) (list_all p xs) h).0)
one_of p (x ∷ xs) h (suc i) l = one_of p xs (and_parts (p x) (list_all p xs) h).1 i (omega arith)

module _ (u : PlainUnit) (e : PlainExpr) (sum : Affine) (terms_are_small : has_small_terms (head_scope u) e ≡ true) (s : StandsFor (ints_in u.params) e sum) where
  small_coefficient : (v : ℕ) → 0 < v → v ≤ length (ints_in u.params) → is_small (coefficient_at v sum.terms) ≡ true
  small_coefficient zero some few = absurd (omega arith)
  small_coefficient (suc i) some few =
      let o = one_of (λ x. has_small x e) (ints_in u.params) (small_parts u e terms_are_small).coefficients i (omega arith) in
      ap is_small (s.coefficients i o.0 o.1) ∙ at_top (λ d. is_small (coefficient o.0 d)) e o.2

  small_term : (k : ℕ) (t : Term) → slice_get sum.terms k ≡ Some t → unsigned_abs t.1 ≤ 2 ^ 20
  small_term k t g =
      let o = term_own 0 sum.terms k t s.ordered g in
      let v = term_variable (length (ints_in u.params)) sum.terms k t s.variables g in
      small (2 ^ 20) t.1 (ap is_small (sym o.0) ∙ small_coefficient t.0 v.0 v.1)

  small_sum : IsSmallSum sum
  small_sum = record {
    constant_small = small (2 ^ 20) sum.constant (ap is_small s.constant ∙ at_top (λ d. is_small (constant_of d)) e (small_parts u e terms_are_small).constants);
    terms_small = small_term;
  }

-- ---- all extents

module _ (u : PlainUnit) where
  abbrev affine_all : List PlainExpr → Bool
  affine_all = list_all (is_affine (head_scope u))

  abbrev small_all : List PlainExpr → Bool
  small_all = list_all (has_small_terms (head_scope u))

  each_is_sum : (es : PlainExprs) → affine_all (list_of es) ≡ true → small_all (list_of es) ≡ true → are_sums (ints_in u.params) es ≡ true
  each_is_sum no_exprs h k = refl
  each_is_sum (more_exprs e es) h k =
      let a = and_parts (is_affine (head_scope u) e) (affine_all (list_of es)) h in
      let b = and_parts (has_small_terms (head_scope u) e) (small_all (list_of es)) k in
      and_from (is_sum (ints_in u.params) e) (are_sums (ints_in u.params) es) (extent_is_sum u e a.0 b.0) (each_is_sum es a.1 b.1)

  each_has_sums : (ps : List PlainParam) → affine_all (extents_in ps) ≡ true → small_all (extents_in ps) ≡ true → have_sums (ints_in u.params) ps ≡ true
  each_has_sums [] h k = refl
  each_has_sums (int_param x ∷ ps) h k = each_has_sums ps h k
  each_has_sums (array_param x constant extents ∷ ps) h k =
      let a = and_parts (affine_all (list_of extents)) (affine_all (extents_in ps)) (sym (list_all-append (is_affine (head_scope u)) (list_of extents) (extents_in ps)) ∙ h) in
      let b = and_parts (small_all (list_of extents)) (small_all (extents_in ps)) (sym (list_all-append (has_small_terms (head_scope u)) (list_of extents) (extents_in ps)) ∙ k) in
      and_from (are_sums (ints_in u.params) extents) (have_sums (ints_in u.params) ps) (each_is_sum extents a.0 b.0) (each_has_sums ps a.1 b.1)

  pub unit_has_sums : extent_not_affine u ≡ false → extent_terms_too_large u ≡ false → have_sums (ints_in u.params) u.params ≡ true
  unit_has_sums h k = each_has_sums u.params (not-false (affine_all (extents_in u.params)) h) (not-false (small_all (extents_in u.params)) k)

  small_extents : (es : PlainExprs) (sums : List Affine) → small_all (list_of es) ≡ true → AreSums (ints_in u.params) es sums → (j : ℕ) (sum : Affine) → slice_get sums j ≡ Some sum → IsSmallSum sum
  small_extents no_exprs [] h s j sum g = cc
  small_extents no_exprs (a ∷ sums) h s j sum g = absurd s
  small_extents (more_exprs e es) [] h s j sum g = absurd s
  small_extents (more_exprs e es) (a ∷ sums) h s zero sum g =
      subst IsSmallSum (same_Some a sum g) (small_sum u e a (and_parts (has_small_terms (head_scope u) e) (small_all (list_of es)) h).0 s.0)
  small_extents (more_exprs e es) (a ∷ sums) h s (suc j) sum g = small_extents es sums (and_parts (has_small_terms (head_scope u) e) (small_all (list_of es)) h).1 s.1 j sum g

  small_arrays : (ps : List PlainParam) (arrays : List ArrayInfo) → small_all (extents_in ps) ≡ true → HaveSums (ints_in u.params) ps arrays
      → (k : ℕ) (a : ArrayInfo) → slice_get arrays k ≡ Some a → (j : ℕ) (sum : Affine) → slice_get a.extents j ≡ Some sum → IsSmallSum sum
  small_arrays [] [] h s k a g j sum f = cc
  small_arrays [] (b ∷ arrays) h s k a g j sum f = absurd s
  small_arrays (int_param x ∷ ps) arrays h s k a g j sum f = small_arrays ps arrays h s k a g j sum f
  small_arrays (array_param x constant extents ∷ ps) [] h s k a g j sum f = absurd s
  small_arrays (array_param x constant extents ∷ ps) (b ∷ arrays) h s zero a g j sum f =
      let l = and_parts (small_all (list_of extents)) (small_all (extents_in ps)) (sym (list_all-append (has_small_terms (head_scope u)) (list_of extents) (extents_in ps)) ∙ h) in
      small_extents extents b.extents l.0 s.2 j sum (ap (λ (c : ArrayInfo). slice_get c.extents j) (same_Some b a g) ∙ f)
  small_arrays (array_param x constant extents ∷ ps) (b ∷ arrays) h s (suc k) a g j sum f =
      let l = and_parts (small_all (list_of extents)) (small_all (extents_in ps)) (sym (list_all-append (has_small_terms (head_scope u)) (list_of extents) (extents_in ps)) ∙ h) in
      small_arrays ps arrays l.1 s.3 k a g j sum f

  pub small_sums : (arrays : List ArrayInfo) → extent_terms_too_large u ≡ false → HaveSums (ints_in u.params) u.params arrays
      → (k : ℕ) (a : ArrayInfo) → slice_get arrays k ≡ Some a → (j : ℕ) (sum : Affine) → slice_get a.extents j ≡ Some sum → IsSmallSum sum
  small_sums arrays h s = small_arrays u.params arrays (not-false (small_all (extents_in u.params)) h) s
