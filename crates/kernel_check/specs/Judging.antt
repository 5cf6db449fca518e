-- The refusal that a call answers, by its number and its item.
use Rattle.std.specs.Prelude.{◌≡◌, ◌⊎◌, ℕ, not, List, [], ◌∷◌, map, Result, Ok, Err, Option, Some, None}
use Rattle.c_tree.specs.Plain.{PlainUnit}
use Rattle.c_tree.specs.declared.refusal.Refusal.{Refusal}
use Rattle.c_tree.specs.declared.refusal.Refusal.TheVariants as r
use Rattle.acceptance.specs.Items.{least_item, lowest}
use Rattle.acceptance.specs.Head.{bad_range, extents_known, extent_not_affine, extent_terms_too_large, extent_too_wide, extent_not_positive, head_names_twice}
use Rattle.acceptance.specs.Limits.{too_many}
use Rattle.kernel_check.specs.Conditions.{holds}
use Rattle.acceptance.specs.Printed.{at_head, printed_conditions}

abbrev pub number_of : Refusal → ℕ
number_of (r.TextTooLong length) = 1
number_of (r.Lexical byte) = 2
number_of (r.Syntax byte) = 3
number_of (r.NameTwice item) = 4
number_of (r.NameUnknown item) = 5
number_of (r.ReservedName item) = 6
number_of (r.BadRange item) = 7
number_of (r.TooMany counted count item) = 8
number_of (r.NotAffine item) = 9
number_of (r.CoefficientTooLarge item) = 10
number_of (r.IntervalTooWide item) = 11
number_of (r.ExtentNotPositive item) = 12
number_of (r.WrongDimensions item) = 13
number_of (r.WriteToConst item) = 14
number_of (r.BadIndexArray item) = 15
number_of (r.BadLiteral item) = 16
number_of (r.IrregularWrite item) = 17
number_of (r.WrongKind item) = 18
number_of r.OutOfMemory = 0

-- the item that a refusal carries
abbrev pub item_of : Refusal → Option ℕ
item_of (r.NameTwice item) = Some item
item_of (r.NameUnknown item) = Some item
item_of (r.ReservedName item) = Some item
item_of (r.BadRange item) = Some item
item_of (r.TooMany counted count item) = Some item
item_of (r.NotAffine item) = Some item
item_of (r.CoefficientTooLarge item) = Some item
item_of (r.IntervalTooWide item) = Some item
item_of (r.ExtentNotPositive item) = Some item
item_of (r.WrongDimensions item) = Some item
item_of (r.WriteToConst item) = Some item
item_of (r.BadIndexArray item) = Some item
item_of (r.BadLiteral item) = Some item
item_of (r.IrregularWrite item) = Some item
item_of (r.WrongKind item) = Some item
item_of _ = None

-- the count that a refusal carries is the one that is over its limit
abbrev pub CarriesCount : PlainUnit → Refusal → Type 0
CarriesCount u (r.TooMany counted count item) = too_many u ≡ Some (record { counted = counted; count = count; item = item })
CarriesCount u _ = Unit {0}

-- The refusal is the lowest number of these that holds anywhere, with the least item at which it does.
pub record IsLowest (u : PlainUnit) (judged : List (ℕ × Option ℕ)) (why : Refusal) : Type 0 where
  pub item : ℕ
  pub carried : item_of why ≡ Some item
  pub lowest_is : lowest judged ≡ Some (number_of why, item)
  pub counted : CarriesCount u why

-- Nothing is refused where none of these numbers holds; else the lowest is, unless memory runs out.
abbrev pub IsJudged : PlainUnit → List (ℕ × Option ℕ) → Result (Unit {0}) Refusal → Type 0
IsJudged u judged (Ok done) = lowest judged ≡ None
IsJudged u judged (Err why) = (why ≡ r.OutOfMemory) ⊎ IsLowest u judged why

-- the twelfth number with its item
abbrev pub twelfth : PlainUnit → ℕ × Option ℕ
twelfth u = (12, least_item u (at_head (extent_not_positive u)))

-- the numbers of the refusals of a printed unit, with the least item of each
abbrev pub printed_judged : PlainUnit → List (ℕ × Option ℕ)
printed_judged u = map (λ c. (c.0, least_item u c.1)) (printed_conditions u)

-- the numbers of the refusals that may hold at the head, with item 0 where they do
abbrev pub head_judged : PlainUnit → List (ℕ × Option ℕ)
head_judged u =
    (4, holds (head_names_twice u)) ∷ (5, holds (not (extents_known [] u.params))) ∷ (7, holds (bad_range u).head) ∷ (9, holds (extent_not_affine u))
    ∷ (10, holds (extent_terms_too_large u)) ∷ (11, holds (extent_too_wide u)) ∷ (12, holds (extent_not_positive u)) ∷ []
