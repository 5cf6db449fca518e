-- The lowest number that holds is that of a refusal.
use Rattle.std.proofs.Common.{◌≡◌, ◌⊎◌, inl, inr, ℕ, List, [], ◌∷◌, Option, Some, None, refl, sym, ap}
use Rattle.std.specs.List.{AllByRecursion}
use Rattle.c_tree.specs.Plain.{PlainUnit}
use Rattle.c_tree.specs.declared.refusal.Refusal.{Refusal}
use Rattle.c_tree.specs.declared.refusal.Refusal.TheVariants as r
use Rattle.acceptance.specs.Items.{lowest}
use Rattle.acceptance.specs.Limits.{Excess, too_many}
use Rattle.acceptance.specs.Sources as sources
use Rattle.acceptance.specs.Sources.{judged}
use Rattle.kernel_check.specs.Judging.{number_of, item_of, CarriesCount, IsLowest, printed_judged}

-- the refusal of a number at an item
record Why (u : PlainUnit) (n item : ℕ) : Type 0 where
  why : Refusal
  number : number_of why ≡ n
  carried : item_of why ≡ Some item
  counted : CarriesCount u why

abbrev HasWhy : PlainUnit → ℕ × Option ℕ → Type 0
HasWhy u j = (item : ℕ) → j.1 ≡ Some item → Why u j.0 item

abbrev Answer : PlainUnit → List (ℕ × Option ℕ) → Type 0
Answer u js = (lowest js ≡ None) ⊎ ((why : Refusal) × IsLowest u js why)

behind : (u : PlainUnit) (n : ℕ) (js : List (ℕ × Option ℕ)) → Answer u js → Answer u ((n, None) ∷ js)
behind u n js (inl h) = inl h
behind u n js (inr h) = inr (h.0, record { item = h.1.item; carried = h.1.carried; lowest_is = h.1.lowest_is; counted = h.1.counted })

answer : (u : PlainUnit) (js : List (ℕ × Option ℕ)) → AllByRecursion (HasWhy u) js → Answer u js
answer u [] h = inl refl
answer u ((n, None) ∷ js) h = behind u n js (answer u js h.1)
answer u ((n, Some item) ∷ js) h = let w = h.0 item refl in
    inr (w.why, record { item = item; carried = w.carried; lowest_is = ap (λ (m : ℕ). Some (m, item)) (sym w.number); counted = w.counted })

same_item : (e : Excess) (item : ℕ) → sources.item_of (Some e) ≡ Some item → e.item ≡ item
same_item e item h = cc

no_item : (item : ℕ) → sources.item_of None ≡ Some item → ⊥
no_item item h = cc

of_count : (u : PlainUnit) (o : Option Excess) → too_many u ≡ o → (item : ℕ) → sources.item_of o ≡ Some item → Why u 8 item
of_count u None is item h = absurd (no_item item h)
of_count u (Some e) is item h = record { why = r.TooMany e.counted e.count e.item; number = refl; carried = ap (λ (k : ℕ). Some k) (same_item e item h); counted = is }

pub source_answer : (u : PlainUnit) → Answer u (judged u)
source_answer u = answer u (judged u) (
  λ item h. record { why = r.NameTwice item; number = refl; carried = refl; counted = tt },
  (
    λ item h. record { why = r.NameUnknown item; number = refl; carried = refl; counted = tt },
    (
      λ item h. record { why = r.ReservedName item; number = refl; carried = refl; counted = tt },
      (
        λ item h. record { why = r.BadRange item; number = refl; carried = refl; counted = tt },
        (
          of_count u (too_many u) refl,
          (
            λ item h. record { why = r.NotAffine item; number = refl; carried = refl; counted = tt },
            (
              λ item h. record { why = r.CoefficientTooLarge item; number = refl; carried = refl; counted = tt },
              (
                λ item h. record { why = r.IntervalTooWide item; number = refl; carried = refl; counted = tt },
                (
                  λ item h. record { why = r.ExtentNotPositive item; number = refl; carried = refl; counted = tt },
                  (
                    λ item h. record { why = r.WrongDimensions item; number = refl; carried = refl; counted = tt },
                    (
                      λ item h. record { why = r.WriteToConst item; number = refl; carried = refl; counted = tt },
                      (
                        λ item h. record { why = r.BadIndexArray item; number = refl; carried = refl; counted = tt },
                        (
                          λ item h. record { why = r.BadLiteral item; number = refl; carried = refl; counted = tt },
                          (
                            λ item h. record { why = r.IrregularWrite item; number = refl; carried = refl; counted = tt },
                            tt,
                          ),
                        ),
                      ),
                    ),
                  ),
                ),
              ),
            ),
          ),
        ),
      ),
    ),
  ),
)

pub printed_answer : (u : PlainUnit) → Answer u (printed_judged u)
printed_answer u = answer u (printed_judged u) (
  λ item h. record { why = r.NameTwice item; number = refl; carried = refl; counted = tt },
  (
    λ item h. record { why = r.NameUnknown item; number = refl; carried = refl; counted = tt },
    (
      λ item h. record { why = r.BadRange item; number = refl; carried = refl; counted = tt },
      (
        λ item h. record { why = r.NotAffine item; number = refl; carried = refl; counted = tt },
        (
          λ item h. record { why = r.CoefficientTooLarge item; number = refl; carried = refl; counted = tt },
          (
            λ item h. record { why = r.IntervalTooWide item; number = refl; carried = refl; counted = tt },
            (
              λ item h. record { why = r.ExtentNotPositive item; number = refl; carried = refl; counted = tt },
              (
                λ item h. record { why = r.WrongDimensions item; number = refl; carried = refl; counted = tt },
                (
                  λ item h. record { why = r.BadLiteral item; number = refl; carried = refl; counted = tt },
                  (
                    λ item h. record { why = r.WrongKind item; number = refl; carried = refl; counted = tt },
                    tt,
                  ),
                ),
              ),
            ),
          ),
        ),
      ),
    ),
  ),
)
