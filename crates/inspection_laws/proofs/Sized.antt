-- Extents have their values wherever the parameters have theirs: in the walks, at an assignment, and at a cell of the prologue.
use Rattle.std.proofs.Common.{◌≡◌, ◌⊎◌, inl, inr, ℕ, ◌^◌, ◌<◌, true, if◌then◌else◌, List, [], ◌∷◌, ◌++◌, refl, sym, ap, ◌∙◌, arith, ℤ, pos}
use Rattle.c_tree.specs.Plain.{PlainExpr, lit, var, cell, un, bin, cast, test, umin, umax, least, greatest, widen, big, PlainExprs, no_exprs, more_exprs}
use Rattle.c_tree.specs.Kinds.{either, signed_kind}
use Rattle.c_tree.specs.Values.{Vars, signed, as_word, kind}
use Rattle.c_tree.specs.Arrays.{size_of}
use Rattle.c_tree.specs.Run.{State, Outcome, goes_on, Scope, word}
use Rattle.pass_laws.specs.Countable.{IsAffine}
use Rattle.pass_laws.specs.Places.{IsPlace}
use Rattle.pass_laws.proofs.Renamed.{copied_vars, name_under}
use Rattle.inspection_laws.specs.Walked.{names_any, IsConstant, IsWordable, Agrees, AreExtents, AreSized}
use Rattle.inspection_laws.proofs.IndexWords.{named_kind, constant_unnamed, as_word_is}
use Rattle.inspection_laws.proofs.Constants.{constant_here, constant_is}

module _ (params env : Vars) (h : Agrees params env) where
  affine_there : (e : PlainExpr) → IsAffine e params → IsAffine e env
  affine_there (lit n) a = tt
  affine_there (var x) a = h.has x a
  affine_there (cell x at) a = absurd a
  affine_there (un op e) a = affine_there e a
  affine_there (bin op e g) a = (affine_there e a.0, affine_there g a.1)
  affine_there (cast e) a = absurd a
  affine_there (test rel e g) a = absurd a
  affine_there (umin e g) a = absurd a
  affine_there (umax e g) a = absurd a
  affine_there (least e g) a = (affine_there e a.0, affine_there g a.1)
  affine_there (greatest e g) a = (affine_there e a.0, affine_there g a.1)
  affine_there (widen e) a = absurd a
  affine_there (big high low) a = absurd a

  signed_there : (e : PlainExpr) → IsAffine e params → signed e env ≡ signed e params
  signed_there (lit n) a = refl
  signed_there (var x) a = h.values x a
  signed_there (cell x at) a = absurd a
  signed_there (un op e) a = rw (signed_there e a) refl
  signed_there (bin op e g) a = rw (signed_there e a.0, signed_there g a.1) refl
  signed_there (cast e) a = absurd a
  signed_there (test rel e g) a = absurd a
  signed_there (umin e g) a = absurd a
  signed_there (umax e g) a = absurd a
  signed_there (least e g) a = rw (signed_there e a.0, signed_there g a.1) refl
  signed_there (greatest e g) a = rw (signed_there e a.0, signed_there g a.1) refl
  signed_there (widen e) a = absurd a
  signed_there (big high low) a = absurd a

  extent_word : (sc : Scope) (e : PlainExpr) (k : ℕ) (t : State) → IsAffine e params → IsWordable e → signed e params ≡ pos k → k < 2 ^ 63 → word sc (cast e) env t ≡ goes_on k t
  extent_word sc e k t a w is small = chosen w
    where
      chosen : (names_any e ≡ true) ⊎ IsConstant e → word sc (cast e) env t ≡ goes_on k t
      chosen (inl named) =
          let kinds : kind env e ≡ signed_kind = named_kind e env (affine_there e a) ∙ ap (λ b. if b then signed_kind else either) named in
          let value : signed e env ≡ pos k = signed_there e a ∙ is in
          rw (kinds, value) (ap (λ n. let o : Outcome ℕ = goes_on n t in o) (as_word_is k (omega arith)))
      chosen (inr c) =
          let kinds : kind env e ≡ either = named_kind e env (affine_there e a) ∙ ap (λ b. if b then signed_kind else either) (constant_unnamed e c) in
          rw kinds (constant_here sc e env t c ∙ ap (λ n. let o : Outcome ℕ = goes_on n t in o) (constant_is e params k c is (omega arith)))

  pub sized_from : (sc : Scope) (ns : PlainExprs) (zs : List ℤ) → AreExtents ns zs params → AreSized sc ns zs env
  sized_from sc no_exprs [] d = tt
  sized_from sc no_exprs (z ∷ zs) d = absurd d
  sized_from sc (more_exprs n ns) [] d = absurd d
  sized_from sc (more_exprs n ns) (z ∷ zs) d =
      let size : d.1.0 ≡ size_of z = sym (ap size_of d.1.1) in (
        (λ t. extent_word sc n d.1.0 t d.0.0 d.0.1 d.1.2 d.1.3 ∙ ap (λ k. goes_on k t) size),
        ap as_word (signed_there n d.0.0 ∙ d.1.2) ∙ as_word_is d.1.0 (let l : d.1.0 < 2 ^ 63 = d.1.3 in omega arith) ∙ size,
        d.2,
        sized_from sc ns zs d.3,
      )

pub place_agrees : (params env : Vars) → IsPlace params env → Agrees params env
place_agrees params env p = record { values = p.values; has = p.has }

-- under the loops of a walk
pub walk_agrees : (params base : Vars) → IsPlace params base → (loops : Vars) → Agrees params (copied_vars loops ++ base)
walk_agrees params base p loops = record {
  values = λ x h. (name_under base p.variables loops x (p.has x h)).0 ∙ p.values x h;
  has = λ x h. (name_under base p.variables loops x (p.has x h)).1;
}
