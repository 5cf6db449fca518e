-- The value of an affine expression lies in its interval, and where its intervals are narrow it is the value modulo 2^64.
use Rattle.std.proofs.Common.{◌≡◌, ◌^◌, Bool, true, ◌&&◌, ℤ, pos, neg_ℤ, refl, sym, ap, ◌∙◌, arith, FitsSigned, true≢false}
use Rattle.std.proofs.lemmas.Bool.{and_parts}
use Rattle.std.specs.Prelude.{int_le}
use Rattle.std.specs.Int.{int_wrap, w64}
use Rattle.std.proofs.lemmas.Int.{ints, int_wrap_fits}
use Rattle.c_tree.specs.Plain.{PlainExpr, lit, var, un, bin}
use Rattle.c_tree.specs.Values.{Vars, signed_bin, signed, exact}
use Rattle.c_tree.specs.declared.expr.BinOp.{BinOp}
use Rattle.c_tree.specs.declared.expr.BinOp.TheVariants.{Add, Sub, Mul}
use Rattle.acceptance.specs.Items.{Scope}
use Rattle.acceptance.specs.Affine.{has_name, is_affine_un, is_affine_bin, is_affine, holds_throughout, lies_in, Interval, Intervals, interval_bin, interval, is_narrow}
use Rattle.interval_laws.specs.Laws.{Within, Suits}
use Rattle.interval_laws.proofs.Products.{product_within}

bin_within : (op : BinOp) (n m : Bool) (i j : Interval) (a b : ℤ) → is_affine_bin op n m ≡ true → Within i a → Within j b → Within (interval_bin op i j) (signed_bin op a b)
bin_within Add n m i j a b e p q = let f = p.low in let g = p.high in let h = q.low in let k = q.high in record { low = omega (arith, ints); high = omega (arith, ints) }
bin_within Sub n m i j a b e p q = let f = p.low in let g = p.high in let h = q.low in let k = q.high in record { low = omega (arith, ints); high = omega (arith, ints) }
bin_within Mul n m i j a b e p q = product_within i j a b p q
bin_within _ n m i j a b e p q = absurd (true≢false (sym e))

pub fits_narrow : (i : Interval) (z : ℤ) → Within i z → (lies_in (pos (2 ^ 62)) i.0 && lies_in (pos (2 ^ 62)) i.1) ≡ true → FitsSigned w64 z
fits_narrow i z p e = let f = p.low in let g = p.high in
    let a = (and_parts (int_le (neg_ℤ (pos (2 ^ 62))) i.0) (int_le i.0 (pos (2 ^ 62))) (and_parts (lies_in (pos (2 ^ 62)) i.0) (lies_in (pos (2 ^ 62)) i.1) e).0).0 in
    let b = (and_parts (int_le (neg_ℤ (pos (2 ^ 62))) i.1) (int_le i.1 (pos (2 ^ 62))) (and_parts (lies_in (pos (2 ^ 62)) i.0) (lies_in (pos (2 ^ 62)) i.1) e).1).1 in omega (arith, ints)

module _ (rs : Intervals) (sc : Scope) (vs : Vars) (s : Suits rs sc vs) where
  pub exact_within : (e : PlainExpr) → is_affine sc e ≡ true → Within (interval rs e) (exact e vs)
  exact_within (lit n) h = record { low = omega (arith, ints); high = omega (arith, ints) }
  exact_within (var x) h = s.within x h
  exact_within (un op a) h =
      let p = exact_within a (and_parts (is_affine_un op) (is_affine sc a) h).1 in
      let f = p.low in let g = p.high in record { low = omega (arith, ints); high = omega (arith, ints) }
  exact_within (bin op a b) h =
      let affine = is_affine_bin op (has_name a) (has_name b) in
      let both = (and_parts affine (is_affine sc a && is_affine sc b) h).1 in
      bin_within op (has_name a) (has_name b) (interval rs a) (interval rs b) (exact a vs) (exact b vs) (and_parts affine (is_affine sc a && is_affine sc b) h).0
      (exact_within a (and_parts (is_affine sc a) (is_affine sc b) both).0) (exact_within b (and_parts (is_affine sc a) (is_affine sc b) both).1)
  exact_within _ h = absurd (true≢false (sym h))

  wraps_not : (e : PlainExpr) → is_affine sc e ≡ true → is_narrow rs e ≡ true → int_wrap w64 (exact e vs) ≡ exact e vs
  wraps_not e h n = int_wrap_fits w64 (exact e vs) (fits_narrow (interval rs e) (exact e vs) (exact_within e h) n)

  pub signed_exact : (e : PlainExpr) → is_affine sc e ≡ true → holds_throughout (is_narrow rs) e ≡ true → signed e vs ≡ exact e vs
  signed_exact (lit n) h k = wraps_not (lit n) h k
  signed_exact (var x) h k = refl
  signed_exact (un op a) h k =
      let here = is_narrow rs (un op a) in let below = holds_throughout (is_narrow rs) a in
      ap (λ z. int_wrap w64 (neg_ℤ z)) (signed_exact a (and_parts (is_affine_un op) (is_affine sc a) h).1 (and_parts here below k).1) ∙ wraps_not (un op a) h (and_parts here below k).0
  signed_exact (bin op a b) h k =
      let here = is_narrow rs (bin op a b) in
      let left = holds_throughout (is_narrow rs) a in let right = holds_throughout (is_narrow rs) b in
      let both = (and_parts (is_affine_bin op (has_name a) (has_name b)) (is_affine sc a && is_affine sc b) h).1 in
      let below = (and_parts here (left && right) k).1 in
      ap (λ z. int_wrap w64 (signed_bin op z (signed b vs))) (signed_exact a (and_parts (is_affine sc a) (is_affine sc b) both).0 (and_parts left right below).0)
      ∙ ap (λ z. int_wrap w64 (signed_bin op (exact a vs) z)) (signed_exact b (and_parts (is_affine sc a) (is_affine sc b) both).1 (and_parts left right below).1)
      ∙ wraps_not (bin op a b) h (and_parts here (left && right) k).0
  signed_exact _ h k = absurd (true≢false (sym h))
