-- An array of a source, by its place among all: its name, its number and its extents as they are declared.
use Rattle.std.proofs.Common.{◌≡◌, ℕ, zero, suc, ◌+◌, ◌^◌, ◌<◌, Bool, true, false, ◌||◌, List, [], ◌∷◌, refl, sym, ap, ◌∙◌, subst, arith, ℤ, Some, true≢false}
use Rattle.std.specs.Prelude.{bytes_eq, slice_get}
use Rattle.std.specs.List.{list_any}
use Rattle.std.proofs.lemmas.Bool.{cond-true, cond-false}
use Rattle.c_tree.specs.Names.{arrays_in}
use Rattle.c_tree.specs.Plain.{Word, PlainStmts, PlainParam, int_param, array_param}
use Rattle.c_tree.specs.Values.{Vars}
use Rattle.instrumentation.specs.Guarded.{array_names, arrays_with_extents}
use Rattle.instrumentation.specs.Inspects.{inspects_all}
use Rattle.instrumentation.specs.Names.{number_from}
use Rattle.instrumentation_laws.specs.RegularUnits.{AreMeasured}
use Rattle.instrumentation_laws.proofs.Names.{same_word}
use Rattle.pass_laws.specs.Countable.{rank}
use Rattle.pass_laws.specs.Laws.{HaveRanks}
use Rattle.inspection_laws.specs.CountedUnits.{HaveExtents}
use Rattle.inspection_laws.specs.Walked.{AreExtents}
use Rattle.text_parts.specs.Extents.{declared_extents}

or_false : (b c : Bool) → (b || c) ≡ false → (b ≡ false) × (c ≡ false)
or_false true c e = absurd (true≢false e)
or_false false c e = (refl, e)

nothing_there : (k : ℕ) (x : Word) → slice_get (let l : List Word = [] in l) k ≡ Some x → ⊥
nothing_there zero x e = cc
nothing_there (suc k) x e = cc

not_any : (y : Word) (ps : List PlainParam) (k : ℕ) (x : Word) → list_any (bytes_eq y) (array_names ps) ≡ false → slice_get (arrays_in ps) k ≡ Some x → bytes_eq y x ≡ false
not_any y [] k x h e = absurd (nothing_there k x e)
not_any y (int_param z ∷ ps) k x h e = not_any y ps k x h e
not_any y (array_param z constant es ∷ ps) zero x h e =
    let same : z ≡ x = cc in
    ap (bytes_eq y) (sym same) ∙ (or_false (bytes_eq y z) (list_any (bytes_eq y) (array_names ps)) h).0
not_any y (array_param z constant es ∷ ps) (suc k) x h e = not_any y ps k x (or_false (bytes_eq y z) (list_any (bytes_eq y) (array_names ps)) h).1 e

-- its number
pub number_at : (vs : Vars) (ps : List PlainParam) (a k : ℕ) (x : Word) → AreMeasured vs ps → slice_get (arrays_in ps) k ≡ Some x → number_from a (array_names ps) x ≡ a + k
number_at vs [] a k x h e = absurd (nothing_there k x e)
number_at vs (int_param z ∷ ps) a k x h e = number_at vs ps a k x h e
number_at vs (array_param z constant es ∷ ps) a zero x h e =
    let same : z ≡ x = cc in
    cond-true _ _ _ (ap (bytes_eq z) (sym same) ∙ same_word z) ∙ omega arith
number_at vs (array_param z constant es ∷ ps) a (suc k) x h e =
    cond-false _ _ _ (not_any z ps k x h.0 e) ∙ number_at vs ps (suc a) k x h.3 e ∙ omega arith

module _ (number : Word → ℕ) (body : PlainStmts) (extents : ℕ → List ℤ) (vs : Vars) where
  -- its extents
  pub extents_of_it : (ps : List PlainParam) (a k : ℕ) (x : Word) → HaveExtents number body extents vs a (arrays_with_extents ps) → slice_get (arrays_in ps) k ≡ Some x → inspects_all number (a + k) body ≡ true →
      AreExtents (declared_extents (arrays_with_extents ps) k) (extents (a + k)) vs
  extents_of_it [] a k x h e g = absurd (nothing_there k x e)
  extents_of_it (int_param z ∷ ps) a k x h e g = extents_of_it ps a k x h e g
  extents_of_it (array_param z constant es ∷ ps) a zero x h e g =
      let same : a + 0 ≡ a = omega arith in
      subst (λ n. AreExtents es (extents n) vs) (sym same) (h.0 (ap (λ n. inspects_all number n body) (sym same) ∙ g))
  extents_of_it (array_param z constant es ∷ ps) a (suc k) x h e g =
      let same : a + suc k ≡ suc a + k = omega arith in
      subst (λ n. AreExtents (declared_extents (arrays_with_extents ps) k) (extents n) vs) (sym same) (extents_of_it ps (suc a) k x h.1 e (ap (λ n. inspects_all number n body) (sym same) ∙ g))

-- how many
pub rank_of_it : (ps : List PlainParam) (k : ℕ) (x : Word) → HaveRanks (arrays_with_extents ps) → slice_get (arrays_in ps) k ≡ Some x → rank (declared_extents (arrays_with_extents ps) k) < 2 ^ 64
rank_of_it [] k x h e = absurd (nothing_there k x e)
rank_of_it (int_param z ∷ ps) k x h e = rank_of_it ps k x h e
rank_of_it (array_param z constant es ∷ ps) zero x h e = h.0
rank_of_it (array_param z constant es ∷ ps) (suc k) x h e = rank_of_it ps k x h.1 e
