-- What is collected of an expression is the sum that it stands for.
use Rattle.std.proofs.Common.{◌≡◌, ◌<◌, ◌≤◌, ◌+◌, ◌^◌, ℕ, suc, zero, List, [], ◌∷◌, length, ℤ, pos, negsuc, neg_ℤ, ◌+ℤ◌, ◌-ℤ◌, ◌*ℤ◌, nat_eq, nat_lt, nat_le, Bool, true, false, cond, not, ◌&&◌, ◌||◌, Option, Some, None, refl, sym, ap, ◌∙◌, subst, arith}
use Rattle.std.specs.Prelude.{option_map, option_and_then, bytes_eq}
use Rattle.std.specs.List.{list_all, slice_get}
use Rattle.std.proofs.lemmas.Bool.{and_parts, and_from}
use Rattle.std.proofs.lemmas.Int.{ints}
use Rattle.std.proofs.Math.IntN.{*ℤ_comm, zero-*ℤ, *ℤ-zero}
use Rattle.c_tree.specs.Plain.{Word, PlainExpr, lit, var, cell, un, bin, cast, test, umin, umax, least, greatest, widen, big}
use Rattle.c_tree.specs.declared.affine.Affine.{Affine}
use Rattle.c_tree.specs.declared.expr.UnOp.{UnOp}
use Rattle.c_tree.specs.declared.expr.UnOp.TheVariants.{Neg, Inv}
use Rattle.c_tree.specs.declared.expr.BinOp.{BinOp}
use Rattle.c_tree.specs.declared.expr.BinOp.TheVariants.{Add, Sub, Mul}
use Rattle.acceptance.specs.Affine.{lies_in, has_name, is_affine, is_affine_un, is_affine_bin, constant as constant_of, coefficient, coefficient_bin, holds_throughout}
use Rattle.affine_sets.specs.declared.expressions.Reading.{Reading}
use Rattle.affine_sets.specs.Sums.{coefficient_at, terms_lie_in, sum_lies_in}
use Rattle.affine_sets.specs.Merged.{sum_of, multiple_of}
use Rattle.affine_sets.specs.Expressions.{are_different, over, is_small_at, is_sum, StandsFor}
use Rattle.affine_sets.specs.Collected.{number_from, small_sum, has_small_products, small_multiple, reading, variable, negated, combined, collected}
use Rattle.affine_sets.proofs.MergedLaws.{merged_coefficient, merged_variables}
use Rattle.affine_sets.proofs.ScaledLaws.{scaled_coefficient, scaled_variables}
use Rattle.affine_sets.proofs.Ordered.{merged_ordered, scaled_ordered}
use Rattle.affine_sets.proofs.SmallLaws.{same_test, each_lies, all_lie, multiple_same, minus_small, times_minus_1}
use Rattle.affine_sets.proofs.NameLaws.{Numbered, NumberIs, number_is}

pub record Reads (names : List Word) (e : PlainExpr) (r : Reading) : Type 0 where
  pub is : is_sum names e ≡ true
  pub stands : StandsFor names e r.sum
  pub named : r.named ≡ has_name e
  pub size : sum_lies_in (pos (2 ^ 44)) r.sum ≡ true

abbrev pub Found : List Word → PlainExpr → Option Reading → Type 0
Found names e None = is_sum names e ≡ false
Found names e (Some r) = Reads names e r

-- ---- a sum is small exactly where its expression is

all_from : (p : Word → Bool) (names : List Word) → ((i : ℕ) (x : Word) → slice_get names i ≡ Some x → p x ≡ true) → list_all p names ≡ true
all_from p [] f = refl
all_from p (x ∷ xs) f = and_from (p x) (list_all p xs) (f 0 x refl) (all_from p xs (λ i y g. f (suc i) y g))

one_of : (p : Word → Bool) (names : List Word) → list_all p names ≡ true → (i : ℕ) → i < length names → (x : Word) × (slice_get names i ≡ Some x) × (p x ≡ true)
one_of p [] h i l = absurd (omega arith)
one_of p (x ∷ xs) h zero l = (x, refl, (and_parts (p x) (list_all p xs) h).0)
one_of p (x ∷ xs) h (suc i) l = one_of p xs (and_parts (p x) (list_all p xs) h).1 i (omega arith)

terms_same : (m : ℕ) (names : List Word) (e : PlainExpr) (a : Affine) → StandsFor names e a → terms_lie_in (pos m) a.terms ≡ list_all (λ x. lies_in (pos m) (coefficient x e)) names
terms_same m names e a s = same_test (terms_lie_in (pos m) a.terms) (list_all (λ x. lies_in (pos m) (coefficient x e)) names)
    (λ h. all_from (λ x. lies_in (pos m) (coefficient x e)) names (λ i x g. ap (lies_in (pos m)) (sym (s.coefficients i x g)) ∙ each_lies m 0 a.terms s.ordered h (suc i)))
    (λ h. all_lie m (length names) 0 a.terms s.ordered s.variables (λ i some most. by h i some most))
  where
    by : list_all (λ x. lies_in (pos m) (coefficient x e)) names ≡ true → (i : ℕ) → 0 < i → i ≤ length names → lies_in (pos m) (coefficient_at i a.terms) ≡ true
    by h zero some most = absurd (omega arith)
    by h (suc i) some most =
        let o = one_of (λ x. lies_in (pos m) (coefficient x e)) names h i (omega arith) in
        ap (lies_in (pos m)) (s.coefficients i o.0 o.1) ∙ o.2

fits : (names : List Word) (e : PlainExpr) (a : Affine) → StandsFor names e a → sum_lies_in (pos (2 ^ 44)) a ≡ is_small_at names e
fits names e a s =
    ap (λ c. lies_in (pos (2 ^ 44)) c && terms_lie_in (pos (2 ^ 44)) a.terms) s.constant ∙ ap (λ t. lies_in (pos (2 ^ 44)) (constant_of e) && t) (terms_same (2 ^ 44) names e a s)

found_if : (names : List Word) (e : PlainExpr) (a : Affine) (n b : Bool) → b ≡ sum_lies_in (pos (2 ^ 44)) a → is_sum names e ≡ is_small_at names e → StandsFor names e a → n ≡ has_name e
    → Found names e (option_map (reading n) (cond b (Some a) None))
found_if names e a n true h k s m = record { is = k ∙ sym (fits names e a s) ∙ sym h; stands = s; named = m; size = sym h }
found_if names e a n false h k s m = k ∙ sym (fits names e a s) ∙ sym h

-- ---- tests of parts

and_true : (a b : Bool) → b ≡ true → a && b ≡ a
and_true true b h = h
and_true false b h = refl

un_is : (u a p t : Bool) → u ≡ true → (a && t) ≡ true → ((u && a) && (p && t)) ≡ p
un_is u a p t h k = let l = and_parts a t k in ap (λ x. x && (p && t)) (and_from u a h l.0) ∙ and_true p t l.1

un_none : (u a p t : Bool) → (a && t) ≡ false → ((u && a) && (p && t)) ≡ false
un_none false a p t h = refl
un_none true false p t h = refl
un_none true true false t h = refl
un_none true true true t h = h

bin_is : (k a b p t w : Bool) → k ≡ true → (a && t) ≡ true → (b && w) ≡ true → ((k && (a && b)) && (p && (t && w))) ≡ p
bin_is k a b p t w h i j =
    let l = and_parts a t i in
    let m = and_parts b w j in
    ap (λ x. x && (p && (t && w))) (and_from k (a && b) h (and_from a b l.0 m.0)) ∙ and_true p (t && w) (and_from t w l.1 m.1)

none_left : (k a b p t w : Bool) → (a && t) ≡ false → ((k && (a && b)) && (p && (t && w))) ≡ false
none_left false a b p t w h = refl
none_left true false b p t w h = refl
none_left true true false p t w h = refl
none_left true true true false t w h = refl
none_left true true true true false w h = refl
none_left true true true true true w h = cc

none_right : (k a b p t w : Bool) → (b && w) ≡ false → ((k && (a && b)) && (p && (t && w))) ≡ false
none_right false a b p t w h = refl
none_right true false b p t w h = refl
none_right true true false p t w h = refl
none_right true true true false t w h = refl
none_right true true true true false w h = refl
none_right true true true true true w h = h

-- ---- the parts of an expression

no_name_bin : (op : BinOp) (k l a b : ℤ) → a ≡ pos 0 → b ≡ pos 0 → coefficient_bin op k a l b ≡ pos 0
no_name_bin Add k l a b e f = rw (e, f)
no_name_bin Sub k l a b e f = rw (e, f)
no_name_bin Mul k l a b e f = ap (λ z. k *ℤ z +ℤ a *ℤ l) f ∙ ap (λ z. k *ℤ pos 0 +ℤ z *ℤ l) e ∙ sums (k *ℤ pos 0) (pos 0 *ℤ l) (*ℤ-zero k) (zero-*ℤ l)
  where
    sums : (x y : ℤ) → x ≡ pos 0 → y ≡ pos 0 → x +ℤ y ≡ pos 0
    sums x y g h = omega (arith, ints)
no_name_bin _ k l a b e f = refl

or_parts : (a b : Bool) → a || b ≡ false → (a ≡ false) × (b ≡ false)
or_parts true b h = cc
or_parts false b h = (refl, h)

no_name : (x : Word) (e : PlainExpr) → has_name e ≡ false → coefficient x e ≡ pos 0
no_name x (lit n) h = refl
no_name x (un op a) h = ap neg_ℤ (no_name x a h)
no_name x (bin op a b) h = let k = or_parts (has_name a) (has_name b) h in no_name_bin op (constant_of a) (constant_of b) (coefficient x a) (coefficient x b) (no_name x a k.0) (no_name x b k.1)
no_name x (var y) h = absurd (let f : ⊥ = cc in f)
no_name x (cell y at) h = refl
no_name x (cast a) h = refl
no_name x (test rel a b) h = refl
no_name x (umin a b) h = refl
no_name x (umax a b) h = refl
no_name x (least a b) h = refl
no_name x (greatest a b) h = refl
no_name x (widen a) h = refl
no_name x (big high low) h = refl

module _ (names : List Word) where
  sum_stands : (a b : PlainExpr) (s t : Affine) → StandsFor names a s → StandsFor names b t → StandsFor names (bin Add a b) (sum_of s t)
  sum_stands a b s t p q = record {
    constant = ap (λ z. z +ℤ t.constant) p.constant ∙ ap (λ z. constant_of a +ℤ z) q.constant;
    coefficients = λ i x g. merged_coefficient (suc i) s.terms t.terms ∙ ap (λ z. z +ℤ coefficient_at (suc i) t.terms) (p.coefficients i x g) ∙ ap (λ z. coefficient x a +ℤ z) (q.coefficients i x g);
    ordered = merged_ordered s.terms t.terms p.ordered q.ordered;
    variables = merged_variables (length names) s.terms t.terms p.variables q.variables;
  }

  minus_stands : (a : PlainExpr) (s : Affine) → StandsFor names a s → StandsFor names (un Neg a) (multiple_of (negsuc 0) s)
  minus_stands a s p = record {
    constant = times_minus_1 s.constant ∙ ap neg_ℤ p.constant;
    coefficients = λ i x g. scaled_coefficient (suc i) (negsuc 0) s.terms ∙ times_minus_1 (coefficient_at (suc i) s.terms) ∙ ap neg_ℤ (p.coefficients i x g);
    ordered = scaled_ordered (negsuc 0) s.terms p.ordered;
    variables = scaled_variables (length names) (negsuc 0) s.terms p.variables;
  }

  -- a - b has what a + -b has
  less : (y z : ℤ) → y +ℤ neg_ℤ z ≡ y -ℤ z
  less y z = omega (arith, ints)

  difference_stands : (a b : PlainExpr) (s t : Affine) → StandsFor names a s → StandsFor names b t → StandsFor names (bin Sub a b) (sum_of s (multiple_of (negsuc 0) t))
  difference_stands a b s t p q =
      let r = sum_stands a (un Neg b) s (multiple_of (negsuc 0) t) p (minus_stands b t q) in
      record {
        constant = r.constant ∙ less (constant_of a) (constant_of b);
        coefficients = λ i x g. r.coefficients i x g ∙ less (coefficient x a) (coefficient x b);
        ordered = r.ordered;
        variables = r.variables;
      }

  right_only : (k l a b : ℤ) → b ≡ pos 0 → a *ℤ l ≡ k *ℤ b +ℤ a *ℤ l
  right_only k l a b e = sums (a *ℤ l) (k *ℤ b) (ap (λ z. k *ℤ z) e ∙ *ℤ-zero k)
    where
      sums : (x y : ℤ) → y ≡ pos 0 → x ≡ y +ℤ x
      sums x y h = omega (arith, ints)

  left_only : (k l a b : ℤ) → a ≡ pos 0 → b *ℤ k ≡ k *ℤ b +ℤ a *ℤ l
  left_only k l a b e = *ℤ_comm b k ∙ sums (k *ℤ b) (a *ℤ l) (ap (λ z. z *ℤ l) e ∙ zero-*ℤ l)
    where
      sums : (x y : ℤ) → y ≡ pos 0 → x ≡ x +ℤ y
      sums x y h = omega (arith, ints)

  -- the left side times the constant of the right, which has no name
  left_stands : (a b : PlainExpr) (s t : Affine) → StandsFor names a s → StandsFor names b t → has_name b ≡ false → StandsFor names (bin Mul a b) (multiple_of t.constant s)
  left_stands a b s t p q h = record {
    constant = ap (λ z. z *ℤ t.constant) p.constant ∙ ap (λ z. constant_of a *ℤ z) q.constant;
    coefficients = λ i x g.
        scaled_coefficient (suc i) t.constant s.terms ∙ ap (λ z. z *ℤ t.constant) (p.coefficients i x g) ∙ ap (λ z. coefficient x a *ℤ z) q.constant
        ∙ right_only (constant_of a) (constant_of b) (coefficient x a) (coefficient x b) (no_name x b h);
    ordered = scaled_ordered t.constant s.terms p.ordered;
    variables = scaled_variables (length names) t.constant s.terms p.variables;
  }

  right_stands : (a b : PlainExpr) (s t : Affine) → StandsFor names a s → StandsFor names b t → has_name a ≡ false → StandsFor names (bin Mul a b) (multiple_of s.constant t)
  right_stands a b s t p q h = record {
    constant = ap (λ z. t.constant *ℤ z) p.constant ∙ ap (λ z. z *ℤ constant_of a) q.constant ∙ *ℤ_comm (constant_of b) (constant_of a);
    coefficients = λ i x g.
        scaled_coefficient (suc i) s.constant t.terms ∙ ap (λ z. z *ℤ s.constant) (q.coefficients i x g) ∙ ap (λ z. coefficient x b *ℤ z) p.constant
        ∙ left_only (constant_of a) (constant_of b) (coefficient x a) (coefficient x b) (no_name x a h);
    ordered = scaled_ordered s.constant t.terms q.ordered;
    variables = scaled_variables (length names) s.constant t.terms q.variables;
  }

  throughout : PlainExpr → Bool
  throughout = holds_throughout (is_small_at names)

  sides : (op : BinOp) (a b : PlainExpr) → is_affine_bin op (has_name a) (has_name b) ≡ true → is_sum names a ≡ true → is_sum names b ≡ true → is_sum names (bin op a b) ≡ is_small_at names (bin op a b)
  sides op a b h i j = bin_is (is_affine_bin op (has_name a) (has_name b)) (is_affine (over names) a) (is_affine (over names) b) (is_small_at names (bin op a b)) (holds_throughout (is_small_at names) a) (holds_throughout (is_small_at names) b) h i j

  found_negated : (op : UnOp) (a : PlainExpr) (o : Option Reading) → Found names a o → Found names (un op a) (option_and_then (negated op) o)
  found_negated op a None h = un_none (is_affine_un op) (is_affine (over names) a) (is_small_at names (un op a)) (holds_throughout (is_small_at names) a) h
  found_negated Neg a (Some r) h =
      found_if names (un Neg a) (multiple_of (negsuc 0) r.sum) r.named (has_small_products (negsuc 0) r.sum) (multiple_same (negsuc 0) r.sum)
      (un_is true (is_affine (over names) a) (is_small_at names (un Neg a)) (holds_throughout (is_small_at names) a) refl h.is) (minus_stands a r.sum h.stands) h.named
  found_negated Inv a (Some r) h = refl

  either_named : (a b : PlainExpr) (r s : Reading) → r.named ≡ has_name a → s.named ≡ has_name b → r.named || s.named ≡ has_name a || has_name b
  either_named a b r s h k = ap (λ x. x || s.named) h ∙ ap (λ x. has_name a || x) k

  found_product : (a b : PlainExpr) (r s : Reading) → Reads names a r → Reads names b s → (n m : Bool) → n ≡ has_name a → m ≡ has_name b
      → Found names (bin Mul a b) (cond (n && m) None (option_map (reading (n || m)) (cond n (small_multiple s.sum.constant r.sum) (small_multiple r.sum.constant s.sum))))
  found_product a b r s p q true true h k = ap (λ x. (not (x && has_name b) && (is_affine (over names) a && is_affine (over names) b)) && holds_throughout (is_small_at names) (bin Mul a b)) (sym h)
      ∙ ap (λ x. (not x && (is_affine (over names) a && is_affine (over names) b)) && holds_throughout (is_small_at names) (bin Mul a b)) (sym k)
  found_product a b r s p q true false h k =
      found_if names (bin Mul a b) (multiple_of s.sum.constant r.sum) true (has_small_products s.sum.constant r.sum) (multiple_same s.sum.constant r.sum)
      (sides Mul a b (ap (λ x. not (has_name a && x)) (sym k) ∙ one_no (has_name a)) p.is q.is)
      (left_stands a b r.sum s.sum p.stands q.stands (sym k)) (ap (λ x. x || has_name b) h)
    where
      one_no : (x : Bool) → not (x && false) ≡ true
      one_no true = refl
      one_no false = refl
  found_product a b r s p q false m h k =
      found_if names (bin Mul a b) (multiple_of r.sum.constant s.sum) m (has_small_products r.sum.constant s.sum) (multiple_same r.sum.constant s.sum)
      (sides Mul a b (ap (λ x. not (x && has_name b)) (sym h)) p.is q.is)
      (right_stands a b r.sum s.sum p.stands q.stands (sym h)) (k ∙ ap (λ x. x || has_name b) h)

  found_combined : (op : BinOp) (a b : PlainExpr) (r s : Reading) → Reads names a r → Reads names b s → Found names (bin op a b) (combined op r s)
  found_combined Add a b r s p q =
      found_if names (bin Add a b) (sum_of r.sum s.sum) (r.named || s.named) (sum_lies_in (pos (2 ^ 44)) (sum_of r.sum s.sum)) refl
      (sides Add a b refl p.is q.is) (sum_stands a b r.sum s.sum p.stands q.stands) (either_named a b r s p.named q.named)
  found_combined Sub a b r s p q =
      let minus = multiple_of (negsuc 0) s.sum in
      let P : Bool → Type 0 = λ x. Found names (bin Sub a b) (option_map (reading (r.named || s.named)) (option_and_then (small_sum r.sum) (cond x (Some minus) None))) in
      subst P (sym (minus_small s.sum q.size))
      (found_if names (bin Sub a b) (sum_of r.sum minus) (r.named || s.named) (sum_lies_in (pos (2 ^ 44)) (sum_of r.sum minus)) refl
      (sides Sub a b refl p.is q.is) (difference_stands a b r.sum s.sum p.stands q.stands) (either_named a b r s p.named q.named))
  found_combined Mul a b r s p q = found_product a b r s p q r.named s.named p.named q.named
  found_combined _ a b r s p q = refl

  found_bin : (op : BinOp) (a b : PlainExpr) (o p : Option Reading) → Found names a o → Found names b p → Found names (bin op a b) (option_and_then (λ r. option_and_then (combined op r) p) o)
  found_bin op a b None p h k = none_left (is_affine_bin op (has_name a) (has_name b)) (is_affine (over names) a) (is_affine (over names) b) (is_small_at names (bin op a b)) (holds_throughout (is_small_at names) a) (holds_throughout (is_small_at names) b) h
  found_bin op a b (Some r) None h k = none_right (is_affine_bin op (has_name a) (has_name b)) (is_affine (over names) a) (is_affine (over names) b) (is_small_at names (bin op a b)) (holds_throughout (is_small_at names) a) (holds_throughout (is_small_at names) b) k
  found_bin op a b (Some r) (Some s) h k = found_combined op a b r s h k

  number_stands : (n : ℕ) → StandsFor names (lit n) (record { constant = pos n; terms = [] })
  number_stands n = record { constant = refl; coefficients = λ i x g. refl; ordered = refl; variables = refl }

  found_number : (n : ℕ) (b : Bool) → b ≡ sum_lies_in (pos (2 ^ 44)) (record { constant = pos n; terms = [] }) → Found names (lit n) (cond b (Some (reading false (record { constant = pos n; terms = [] }))) None)
  found_number n true h = found_if names (lit n) (record { constant = pos n; terms = [] }) false true h refl (number_stands n) refl
  found_number n false h = found_if names (lit n) (record { constant = pos n; terms = [] }) false false h refl (number_stands n) refl

  variable_stands : (x : Word) (v : ℕ) → Numbered 1 names x v → StandsFor names (var x) (variable v)
  variable_stands x v h = record {
    constant = refl;
    coefficients = λ i y g. ap (λ b. cond b (pos 1) (pos 0) +ℤ pos 0) (ap (nat_eq v) (next i) ∙ h.only i y g) ∙ add_0 (bytes_eq y x);
    ordered = at_least_0 v;
    variables = in_range v (length names) h.from h.to;
  }
    where
      next : (i : ℕ) → suc i ≡ 1 + i
      next i = omega arith

      add_0 : (b : Bool) → cond b (pos 1) (pos 0) +ℤ pos 0 ≡ cond b (pos 1) (pos 0)
      add_0 true = refl
      add_0 false = refl

      at_least_0 : (w : ℕ) → (nat_le 0 w && true) ≡ true
      at_least_0 w = grind arith

      in_range : (w l : ℕ) → 1 ≤ w → w < 1 + l → ((nat_lt 0 w && nat_le w l) && true) ≡ true
      in_range w l p q = grind arith

  found_name : (x : Word) (o : Option ℕ) → NumberIs 1 names x o → Found names (var x) (option_map (λ v. reading true (variable v)) o)
  found_name x None h = ap (λ b. b && is_small_at names (var x)) h
  found_name x (Some v) h =
      found_if names (var x) (variable v) true true refl (ap (λ b. b && is_small_at names (var x)) h.known) (variable_stands x v h) refl

  pub found : are_different names ≡ true → (e : PlainExpr) → Found names e (collected names e)
  found d (lit n) = found_number n (lies_in (pos (2 ^ 44)) (pos n)) (sym (and_true (lies_in (pos (2 ^ 44)) (pos n)) true refl))
  found d (var x) = found_name x (number_from 1 names x) (number_is 1 names x d)
  found d (un op a) = found_negated op a (collected names a) (found d a)
  found d (bin op a b) = found_bin op a b (collected names a) (collected names b) (found d a) (found d b)
  found d _ = refl

pub found_some : (names : List Word) (e : PlainExpr) (o : Option Reading) (r : Reading) → are_different names ≡ true → o ≡ collected names e → o ≡ Some r → Reads names e r
found_some names e o r d h k = let P : Option Reading → Type 0 = Found names e in subst P (sym h ∙ k) (found names d e)

pub found_none : (names : List Word) (e : PlainExpr) (o : Option Reading) → are_different names ≡ true → o ≡ collected names e → o ≡ None → is_sum names e ≡ false
found_none names e o d h k = let P : Option Reading → Type 0 = Found names e in subst P (sym h ∙ k) (found names d e)
