-- The value of an affine expression is its constant and the coefficient of each name times the value of the name.
use Rattle.std.proofs.Common.{◌≡◌, ℕ, Bool, true, false, cond, not, ◌&&◌, List, [], ◌∷◌, ℤ, pos, neg_ℤ, ◌+ℤ◌, ◌-ℤ◌, ◌*ℤ◌, refl, ap, ◌∙◌, subst, arith}
use Rattle.std.specs.Prelude.{bytes_eq}
use Rattle.std.proofs.lemmas.Bool.{and_parts}
use Rattle.std.proofs.lemmas.Int.{ints}
use Rattle.std.proofs.lemmas.Slice.Eq.{bytes_eq-Decides}
use Rattle.std.proofs.Math.IntN.{*ℤ_comm, *ℤ-zero}
use Rattle.c_tree.specs.Arrays.{vars_of}
use Rattle.c_tree.specs.Names.{is_among, ints_in}
use Rattle.c_tree.specs.Plain.{Word, PlainExpr, lit, var, cell, un, bin, cast, test, umin, umax, least, greatest, widen, big, PlainParam, int_param, array_param}
use Rattle.c_tree.specs.Values.{Vars, value_in, exact, signed_bin}
use Rattle.c_tree.specs.declared.expr.UnOp.{UnOp}
use Rattle.c_tree.specs.declared.expr.UnOp.TheVariants.{Neg, Inv}
use Rattle.c_tree.specs.declared.expr.BinOp.{BinOp}
use Rattle.c_tree.specs.declared.expr.BinOp.TheVariants.{Add, Sub, Mul}
use Rattle.acceptance.specs.Affine.{has_name, is_affine, is_affine_bin, constant as constant_of, coefficient, coefficient_bin}
use Rattle.affine_sets.specs.Expressions.{are_different, over}
use Rattle.affine_sets.proofs.ScaledLaws.{add_times}
use Rattle.frames.proofs.Booleans.{or_parts, not_true}
use Rattle.frames.proofs.Products.{zero_times, times_add}
use Rattle.frames.proofs.Weights.{weighted, weighted_same, weighted_none, weighted_sum, weighted_difference, weighted_minus, weighted_multiple}

-- ---- the values of the parameters

abbrev pub values : List Word → List ℤ → Vars
values [] ns = []
values (x ∷ xs) [] = (x, pos 0) ∷ values xs []
values (x ∷ xs) (n ∷ ns) = (x, n) ∷ values xs ns

pub vars_are : (ps : List PlainParam) (ns : List ℤ) → vars_of ps ns ≡ values (ints_in ps) ns
vars_are [] ns = refl
vars_are (array_param x constant extents ∷ ps) ns = vars_are ps ns
vars_are (int_param x ∷ ps) [] = ap (λ vs. (x, pos 0) ∷ vs) (vars_are ps [])
vars_are (int_param x ∷ ps) (n ∷ ns) = ap (λ vs. (x, n) ∷ vs) (vars_are ps ns)

no_value : (xs : List Word) (y : Word) → value_in (values xs []) y ≡ pos 0
no_value [] y = refl
no_value (x ∷ xs) y = by (bytes_eq x y) (no_value xs y)
  where
    by : (b : Bool) → value_in (values xs []) y ≡ pos 0 → cond b (pos 0) (value_in (values xs []) y) ≡ pos 0
    by true h = refl
    by false h = h

-- ---- a name

abbrev at_name : Word → Word → ℤ
at_name y x = cond (bytes_eq x y) (pos 1) (pos 0)

absent : (xs : List Word) (y : Word) (ns : List ℤ) → is_among xs y ≡ false → weighted (at_name y) xs ns ≡ pos 0
absent [] y ns h = refl
absent (x ∷ xs) y [] h = refl
absent (x ∷ xs) y (n ∷ ns) h =
    let k = or_parts (bytes_eq x y) (is_among xs y) h in
    ap (λ b. cond b (pos 1) (pos 0) *ℤ n +ℤ weighted (at_name y) xs ns) k.0 ∙ nothing n (weighted (at_name y) xs ns) (absent xs y ns k.1)
  where
    nothing : (m z : ℤ) → z ≡ pos 0 → pos 0 *ℤ m +ℤ z ≡ pos 0
    nothing m z e = omega (arith, ints)

pub of_name : (xs : List Word) (y : Word) (ns : List ℤ) → are_different xs ≡ true → value_in (values xs ns) y ≡ weighted (at_name y) xs ns
of_name [] y ns d = refl
of_name (x ∷ xs) y [] d = no_value (x ∷ xs) y
of_name (x ∷ xs) y (n ∷ ns) d =
    let k = and_parts (not (is_among xs x)) (are_different xs) d in
    by (bytes_eq x y) refl (not_true (is_among xs x) k.0) (of_name xs y ns k.1)
  where
    here : (m z : ℤ) → z ≡ pos 0 → m ≡ pos 1 *ℤ m +ℤ z
    here m z e = omega (arith, ints)

    there : (m z : ℤ) → z ≡ pos 0 *ℤ m +ℤ z
    there m z = omega (arith, ints)

    by : (b : Bool) → bytes_eq x y ≡ b → is_among xs x ≡ false → value_in (values xs ns) y ≡ weighted (at_name y) xs ns
        → cond b n (value_in (values xs ns) y) ≡ cond b (pos 1) (pos 0) *ℤ n +ℤ weighted (at_name y) xs ns
    by true e a h =
        let P : Word → Type 0 = λ w. is_among xs w ≡ false in
        here n (weighted (at_name y) xs ns) (absent xs y ns (subst P ((bytes_eq-Decides x y).0 e) a))
    by false e a h = h ∙ there n (weighted (at_name y) xs ns)

-- ---- expressions

no_name_bin : (op : BinOp) (k l a b : ℤ) → a ≡ pos 0 → b ≡ pos 0 → coefficient_bin op k a l b ≡ pos 0
no_name_bin Add k l a b e f = rw (e, f)
no_name_bin Sub k l a b e f = rw (e, f)
no_name_bin Mul k l a b e f = ap (λ z. k *ℤ z +ℤ a *ℤ l) f ∙ ap (λ z. k *ℤ pos 0 +ℤ z *ℤ l) e ∙ sums (k *ℤ pos 0) (pos 0 *ℤ l) (*ℤ-zero k) (zero_times l)
  where
    sums : (x y : ℤ) → x ≡ pos 0 → y ≡ pos 0 → x +ℤ y ≡ pos 0
    sums x y g h = omega (arith, ints)
no_name_bin _ k l a b e f = refl

no_name : (e : PlainExpr) → has_name e ≡ false → (x : Word) → coefficient x e ≡ pos 0
no_name (lit n) h x = refl
no_name (un op a) h x = ap neg_ℤ (no_name a h x)
no_name (bin op a b) h x = let k = or_parts (has_name a) (has_name b) h in no_name_bin op (constant_of a) (constant_of b) (coefficient x a) (coefficient x b) (no_name a k.0 x) (no_name b k.1 x)
no_name (var y) h x = absurd (let f : ⊥ = cc in f)
no_name (cell y at) h x = refl
no_name (cast a) h x = refl
no_name (test rel a b) h x = refl
no_name (umin a b) h x = refl
no_name (umax a b) h x = refl
no_name (least a b) h x = refl
no_name (greatest a b) h x = refl
no_name (widen a) h x = refl
no_name (big high low) h x = refl

module _ (names : List Word) (ns : List ℤ) (different : are_different names ≡ true) where
  abbrev named_part : PlainExpr → ℤ
  named_part e = weighted (λ x. coefficient x e) names ns

  abbrev linear : PlainExpr → ℤ
  linear e = constant_of e +ℤ named_part e

  no_named_part : (e : PlainExpr) → has_name e ≡ false → named_part e ≡ pos 0
  no_named_part e h = weighted_none (λ x. coefficient x e) (no_name e h) names ns

  sum_is : (a b : PlainExpr) → linear a +ℤ linear b ≡ linear (bin Add a b)
  sum_is a b = sorted (constant_of a) (named_part a) (constant_of b) (named_part b) (named_part (bin Add a b)) (weighted_sum (λ x. coefficient x a) (λ x. coefficient x b) names ns)
    where
      sorted : (k p l q w : ℤ) → w ≡ p +ℤ q → (k +ℤ p) +ℤ (l +ℤ q) ≡ (k +ℤ l) +ℤ w
      sorted k p l q w e = omega (arith, ints)

  difference_is : (a b : PlainExpr) → linear a -ℤ linear b ≡ linear (bin Sub a b)
  difference_is a b = sorted (constant_of a) (named_part a) (constant_of b) (named_part b) (named_part (bin Sub a b)) (weighted_difference (λ x. coefficient x a) (λ x. coefficient x b) names ns)
    where
      sorted : (k p l q w : ℤ) → w ≡ p -ℤ q → (k +ℤ p) -ℤ (l +ℤ q) ≡ (k -ℤ l) +ℤ w
      sorted k p l q w e = omega (arith, ints)

  minus_is : (a : PlainExpr) → neg_ℤ (linear a) ≡ linear (un Neg a)
  minus_is a = sorted (constant_of a) (named_part a) (named_part (un Neg a)) (weighted_minus (λ x. coefficient x a) names ns)
    where
      sorted : (k p w : ℤ) → w ≡ neg_ℤ p → neg_ℤ (k +ℤ p) ≡ neg_ℤ k +ℤ w
      sorted k p w e = omega (arith, ints)

  product_part : (a b : PlainExpr) → named_part (bin Mul a b) ≡ constant_of a *ℤ named_part b +ℤ constant_of b *ℤ named_part a
  product_part a b =
      let k = constant_of a in
      let l = constant_of b in
      weighted_same (λ x. coefficient x (bin Mul a b)) (λ x. k *ℤ coefficient x b +ℤ l *ℤ coefficient x a) (λ x. ap (λ z. k *ℤ coefficient x b +ℤ z) (*ℤ_comm (coefficient x a) l)) names ns
      ∙ weighted_sum (λ x. k *ℤ coefficient x b) (λ x. l *ℤ coefficient x a) names ns
      ∙ ap (λ z. z +ℤ weighted (λ x. l *ℤ coefficient x a) names ns) (weighted_multiple k (λ x. coefficient x b) names ns)
      ∙ ap (λ z. k *ℤ named_part b +ℤ z) (weighted_multiple l (λ x. coefficient x a) names ns)

  product_of : (k p l q w : ℤ) → p *ℤ q ≡ pos 0 → w ≡ k *ℤ q +ℤ l *ℤ p → (k +ℤ p) *ℤ (l +ℤ q) ≡ k *ℤ l +ℤ w
  product_of k p l q w none e =
      add_times k p (l +ℤ q) ∙ ap (λ z. z +ℤ p *ℤ (l +ℤ q)) (times_add k l q) ∙ ap (λ z. (k *ℤ l +ℤ k *ℤ q) +ℤ z) (times_add p l q)
      ∙ sorted (k *ℤ l) (k *ℤ q) (p *ℤ l) (p *ℤ q) (l *ℤ p) w none (*ℤ_comm p l) e
    where
      sorted : (kl kq pl pq lp w : ℤ) → pq ≡ pos 0 → pl ≡ lp → w ≡ kq +ℤ lp → (kl +ℤ kq) +ℤ (pl +ℤ pq) ≡ kl +ℤ w
      sorted kl kq pl pq lp w e f g = omega (arith, ints)

  no_product : (a b : PlainExpr) → not (has_name a && has_name b) ≡ true → named_part a *ℤ named_part b ≡ pos 0
  no_product a b h = by (has_name a) (has_name b) refl refl h
    where
      by : (s t : Bool) → has_name a ≡ s → has_name b ≡ t → not (s && t) ≡ true → named_part a *ℤ named_part b ≡ pos 0
      by false t e f g = ap (λ z. z *ℤ named_part b) (no_named_part a e) ∙ zero_times (named_part b)
      by true false e f g = ap (λ z. named_part a *ℤ z) (no_named_part b f) ∙ *ℤ-zero (named_part a)
      by true true e f g = absurd (let no : ⊥ = cc in no)

  bin_is : (op : BinOp) (a b : PlainExpr) → is_affine_bin op (has_name a) (has_name b) ≡ true → signed_bin op (linear a) (linear b) ≡ linear (bin op a b)
  bin_is Add a b h = sum_is a b
  bin_is Sub a b h = difference_is a b
  bin_is Mul a b h = product_of (constant_of a) (named_part a) (constant_of b) (named_part b) (named_part (bin Mul a b)) (no_product a b h) (product_part a b)
  bin_is _ a b h = absurd (let no : ⊥ = cc in no)

  un_is : (op : UnOp) (a : PlainExpr) → neg_ℤ (linear a) ≡ linear (un op a)
  un_is op a = minus_is a

  plain : (n : ℕ) → pos n ≡ linear (lit n)
  plain n = added (pos n) (named_part (lit n)) (no_named_part (lit n) refl)
    where
      added : (k p : ℤ) → p ≡ pos 0 → k ≡ k +ℤ p
      added k p e = omega (arith, ints)

  variable_is : (y : Word) → value_in (values names ns) y ≡ linear (var y)
  variable_is y = of_name names y ns different ∙ added (named_part (var y))
    where
      added : (p : ℤ) → p ≡ pos 0 +ℤ p
      added p = omega (arith, ints)

  pub exact_is : (e : PlainExpr) → is_affine (over names) e ≡ true → exact e (values names ns) ≡ constant_of e +ℤ weighted (λ x. coefficient x e) names ns
  exact_is (lit n) h = plain n
  exact_is (var y) h = variable_is y
  exact_is (un Neg a) h = ap neg_ℤ (exact_is a h) ∙ un_is Neg a
  exact_is (un Inv a) h = absurd (let no : ⊥ = cc in no)
  exact_is (bin op a b) h =
      let k = and_parts (is_affine_bin op (has_name a) (has_name b)) (is_affine (over names) a && is_affine (over names) b) h in
      let m = and_parts (is_affine (over names) a) (is_affine (over names) b) k.1 in
      ap (λ z. signed_bin op z (exact b (values names ns))) (exact_is a m.0) ∙ ap (λ z. signed_bin op (linear a) z) (exact_is b m.1) ∙ bin_is op a b k.0
  exact_is (cell y at) h = absurd (let no : ⊥ = cc in no)
  exact_is (cast a) h = absurd (let no : ⊥ = cc in no)
  exact_is (test rel a b) h = absurd (let no : ⊥ = cc in no)
  exact_is (umin a b) h = absurd (let no : ⊥ = cc in no)
  exact_is (umax a b) h = absurd (let no : ⊥ = cc in no)
  exact_is (least a b) h = absurd (let no : ⊥ = cc in no)
  exact_is (greatest a b) h = absurd (let no : ⊥ = cc in no)
  exact_is (widen a) h = absurd (let no : ⊥ = cc in no)
  exact_is (big high low) h = absurd (let no : ⊥ = cc in no)
