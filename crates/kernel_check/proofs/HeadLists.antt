-- The refusals of a head, each with item 0 where it holds.
use Rattle.std.proofs.Common.{◌≡◌, ℕ, Bool, true, false, not, List, [], ◌∷◌, map, Option, None, Result, Err, refl}
use Rattle.c_tree.specs.Plain.{PlainUnit}
use Rattle.c_tree.specs.declared.refusal.Refusal.{Refusal}
use Rattle.acceptance.specs.Head.{bad_range, extents_known, extent_not_affine, extent_terms_too_large, extent_too_wide, extent_not_positive, head_names_twice}
use Rattle.acceptance.specs.Items.{lowest}
use Rattle.frames.specs.Heads.{HasGoodHead}
use Rattle.kernel_check.specs.Conditions.{holds, judgement_at_head}
use Rattle.kernel_check.specs.Judging.{IsJudged, head_judged}
use Rattle.kernel_check.specs.declared.conditions.Check.{Check}
use Rattle.kernel_check.specs.declared.conditions.Check.TheVariants as c
use Rattle.kernel_check.proofs.Judged.{refused_before, judged_after}

abbrev pub at_head : List Check
at_head = c.NameTwice ∷ c.NameUnknown ∷ c.BadRange ∷ c.ExtentNotAffine ∷ c.ExtentTermsTooLarge ∷ c.ExtentTooWide ∷ []

abbrev pub positive : PlainUnit → List (ℕ × Option ℕ)
positive u = (12, holds (extent_not_positive u)) ∷ []

pub head_refused : (u : PlainUnit) (why : Refusal) → IsJudged u (map (judgement_at_head u) at_head) (Err why) → IsJudged u (head_judged u) (Err why)
head_refused u why h = refused_before u (map (judgement_at_head u) at_head) (positive u) why h

pub head_after : (u : PlainUnit) → lowest (map (judgement_at_head u) at_head) ≡ None → (r : Result (Unit {0}) Refusal) → IsJudged u (positive u) r → IsJudged u (head_judged u) r
head_after u none r h = judged_after u (map (judgement_at_head u) at_head) (positive u) none r h

-- none of a list holds
first_none : (n : ℕ) (b : Bool) (js : List (ℕ × Option ℕ)) → lowest ((n, holds b) ∷ js) ≡ None → (b ≡ false) × (lowest js ≡ None)
first_none n true js h = absurd (let f : ⊥ = cc in f)
first_none n false js h = (refl, h)

-- the head's tests, one by one
module _ (u : PlainUnit) where
  abbrev behind_small : List (ℕ × Option ℕ) → List (ℕ × Option ℕ)
  behind_small more = (11, holds (extent_too_wide u)) ∷ more

  abbrev behind_affine : List (ℕ × Option ℕ) → List (ℕ × Option ℕ)
  behind_affine more = (10, holds (extent_terms_too_large u)) ∷ behind_small more

  abbrev behind_ranges : List (ℕ × Option ℕ) → List (ℕ × Option ℕ)
  behind_ranges more = (9, holds (extent_not_affine u)) ∷ behind_affine more

  abbrev behind_known : List (ℕ × Option ℕ) → List (ℕ × Option ℕ)
  behind_known more = (7, holds (bad_range u).head) ∷ behind_ranges more

  abbrev behind_names : List (ℕ × Option ℕ) → List (ℕ × Option ℕ)
  behind_names more = (5, holds (not (extents_known [] u.params))) ∷ behind_known more

  module _ (more : List (ℕ × Option ℕ)) (h : lowest ((4, holds (head_names_twice u)) ∷ behind_names more) ≡ None) where
    one : (head_names_twice u ≡ false) × (lowest (behind_names more) ≡ None)
    one = first_none 4 (head_names_twice u) (behind_names more) h

    two : lowest (behind_known more) ≡ None
    two = (first_none 5 (not (extents_known [] u.params)) (behind_known more) one.1).1

    three : ((bad_range u).head ≡ false) × (lowest (behind_ranges more) ≡ None)
    three = first_none 7 (bad_range u).head (behind_ranges more) two

    four : (extent_not_affine u ≡ false) × (lowest (behind_affine more) ≡ None)
    four = first_none 9 (extent_not_affine u) (behind_affine more) three.1

    five : (extent_terms_too_large u ≡ false) × (lowest (behind_small more) ≡ None)
    five = first_none 10 (extent_terms_too_large u) (behind_small more) four.1

    narrow : extent_too_wide u ≡ false
    narrow = (first_none 11 (extent_too_wide u) more five.1).0

    good : HasGoodHead u
    good = record { names = one.0; ranges = three.0; affine = four.0; small = five.0 }

pub good_head : (u : PlainUnit) → lowest (head_judged u) ≡ None → HasGoodHead u
good_head u h = good u (positive u) h

pub wide_none : (u : PlainUnit) → lowest (map (judgement_at_head u) at_head) ≡ None → extent_too_wide u ≡ false
wide_none u h = narrow u [] h
