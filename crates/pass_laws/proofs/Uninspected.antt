-- Of an array that isn't inspected each read has affine subscripts.
use Rattle.std.proofs.Common.{◌≡◌, ℕ, Bool, true, false, not, ◌&&◌, List, ◌∷◌, refl, sym, ap, ◌∙◌, nat_eq, pos, true≢false, eqb-true}
use Rattle.c_tree.specs.Plain.{Word, PlainExpr, lit, var, cell, un, bin, cast, test, umin, umax, least, greatest, widen, big, PlainExprs, no_exprs, more_exprs}
use Rattle.c_tree.specs.Values.{Vars, signed}
use Rattle.c_tree.specs.Arrays.{Array, Memory}
use Rattle.c_tree.specs.Instances.{word_at}
use Rattle.instrumentation.specs.Subscripts.{is_cell, indices_in}
use Rattle.instrumentation.specs.Inspects.{read_irregularly}
use Rattle.instrumentation.proofs.Subscripts.{not_by_cell, first_plain, others_plain}
use Rattle.instrumentation_laws.specs.AccessList.{signed_all}
use Rattle.instrumentation_laws.specs.IndexedList.{coordinates_at}
use Rattle.pass_laws.specs.Countable.{IsAffine, AreAffine, IsIndexed, AreIndexed}
use Rattle.pass_laws.proofs.AffineSubscripts.{affine_no_cell}

no_indices : (a : Bool) (n : ℕ) → (a && not (nat_eq n 0)) ≡ false → a ≡ true → n ≡ 0
no_indices true n h e = eqb-true n 0 (negated (nat_eq n 0) h)
  where
    negated : (b : Bool) → not b ≡ false → b ≡ true
    negated true h = refl
    negated false h = absurd (true≢false h)
no_indices false n h e = absurd (true≢false (sym e))

pub read_plainly : (number : Word → ℕ) (a : ℕ) (x : Word) (at : PlainExprs) → read_irregularly number a (cell x at) ≡ false → nat_eq (number x) a ≡ true → indices_in at ≡ 0
read_plainly number a x at h e = no_indices (nat_eq (number x) a) (indices_in at) h e

module _ (arrays : List Array) (number : Word → ℕ) where
  indexed_affine : (e : PlainExpr) (vs : Vars) → is_cell e ≡ false → IsIndexed arrays number e vs → IsAffine e vs
  indexed_affine (cell x at) vs h i = absurd (true≢false h)
  indexed_affine (lit n) vs h i = i
  indexed_affine (var x) vs h i = i
  indexed_affine (un op e) vs h i = i
  indexed_affine (bin op e g) vs h i = i
  indexed_affine (cast e) vs h i = i
  indexed_affine (test rel e g) vs h i = i
  indexed_affine (umin e g) vs h i = i
  indexed_affine (umax e g) vs h i = i
  indexed_affine (least e g) vs h i = i
  indexed_affine (greatest e g) vs h i = i
  indexed_affine (widen e) vs h i = i
  indexed_affine (big high low) vs h i = i

  pub plain_affine : (at : PlainExprs) (vs : Vars) → AreIndexed arrays number at vs → indices_in at ≡ 0 → AreAffine at vs
  plain_affine no_exprs vs h n = tt
  plain_affine (more_exprs e es) vs h n = (indexed_affine e vs (first_plain e es n) h.0, plain_affine es vs h.1 (others_plain e es n))

  -- affine subscripts are such
  affine_indexed : (e : PlainExpr) (vs : Vars) → IsAffine e vs → IsIndexed arrays number e vs
  affine_indexed (cell x at) vs h = absurd h
  affine_indexed (lit n) vs h = h
  affine_indexed (var x) vs h = h
  affine_indexed (un op e) vs h = h
  affine_indexed (bin op e g) vs h = h
  affine_indexed (cast e) vs h = h
  affine_indexed (test rel e g) vs h = h
  affine_indexed (umin e g) vs h = h
  affine_indexed (umax e g) vs h = h
  affine_indexed (least e g) vs h = h
  affine_indexed (greatest e g) vs h = h
  affine_indexed (widen e) vs h = h
  affine_indexed (big high low) vs h = h

  pub all_indexed : (at : PlainExprs) (vs : Vars) → AreAffine at vs → AreIndexed arrays number at vs
  all_indexed no_exprs vs h = tt
  all_indexed (more_exprs e es) vs h = (affine_indexed e vs h.0, all_indexed es vs h.1)

-- their coordinates are read from no memory
pub plain_coordinates : (arrays : List Array) (m : Memory) (at : PlainExprs) (vs : Vars) → AreAffine at vs → coordinates_at arrays m at vs ≡ signed_all at vs
plain_coordinates arrays m no_exprs vs h = refl
plain_coordinates arrays m (more_exprs e es) vs h =
    ap (λ z. z ∷ coordinates_at arrays m es vs) (not_by_cell e (λ p at. pos (word_at arrays m p (signed_all at vs))) (signed e vs) (affine_no_cell e vs h.0)) ∙
    ap (λ l. signed e vs ∷ l) (plain_coordinates arrays m es vs h.1)
