-- The least item of a condition, and the first that a walk finds.
use Rattle.std.proofs.Common.{◌≡◌, ℕ, suc, Bool, true, false, if◌then◌else◌, List, [], ◌∷◌, Option, Some, None, refl, sym, ap, ◌∙◌}
use Rattle.c_tree.specs.Plain.{PlainUnit}
use Rattle.acceptance.specs.Items.{Item, items_all, first_where, least_item}
use Rattle.kernel_check.specs.Conditions.{condition, excess, holds}
use Rattle.kernel_check.specs.Scans.{met_or, first_met}
use Rattle.kernel_check.specs.declared.conditions.Check.{Check}
use Rattle.kernel_check.specs.declared.conditions.Check.TheVariants as c

abbrev pub is_there : Option ℕ → Bool
is_there None = false
is_there (Some n) = true

abbrev pub item_of : Option (ℕ × ℕ) → Option ℕ
item_of None = None
item_of (Some p) = Some p.0

there_holds : (b : Bool) → is_there (holds b) ≡ b
there_holds true = refl
there_holds false = refl

there_over : (b : Bool) (n : ℕ) → is_there (if b then Some n else None) ≡ b
there_over true n = refl
there_over false n = refl

there : (check : Check) (u : PlainUnit) (i : Item) → is_there (excess check u i) ≡ (condition check u).inside i
there c.TooDeep u i = there_over _ _
there c.TooManyReads u i = there_over _ _
there c.NameTwice u i = there_holds ((condition c.NameTwice u).inside i)
there c.NameUnknown u i = there_holds ((condition c.NameUnknown u).inside i)
there c.ReservedName u i = there_holds ((condition c.ReservedName u).inside i)
there c.BadRange u i = there_holds ((condition c.BadRange u).inside i)
there c.NotAffine u i = there_holds ((condition c.NotAffine u).inside i)
there c.CoefficientTooLarge u i = there_holds ((condition c.CoefficientTooLarge u).inside i)
there c.IntervalTooWide u i = there_holds ((condition c.IntervalTooWide u).inside i)
there c.ExtentNotAffine u i = there_holds ((condition c.ExtentNotAffine u).inside i)
there c.ExtentTermsTooLarge u i = there_holds ((condition c.ExtentTermsTooLarge u).inside i)
there c.ExtentTooWide u i = there_holds ((condition c.ExtentTooWide u).inside i)
there c.WrongDimensions u i = there_holds ((condition c.WrongDimensions u).inside i)
there c.WriteToConst u i = there_holds ((condition c.WriteToConst u).inside i)
there c.BadIndexArray u i = there_holds ((condition c.BadIndexArray u).inside i)
there c.BadLiteral u i = there_holds ((condition c.BadLiteral u).inside i)
there c.IrregularWrite u i = there_holds ((condition c.IrregularWrite u).inside i)
there c.WrongKind u i = there_holds ((condition c.WrongKind u).inside i)

one : (o : Option ℕ) (k : ℕ) (r : Option ℕ) (s : Option (ℕ × ℕ)) → r ≡ item_of s → (if is_there o then Some k else r) ≡ item_of (met_or o k s)
one None k r s h = h
one (Some n) k r s h = refl

first_same : (p : Item → Bool) (f : Item → Option ℕ) → ((i : Item) → is_there (f i) ≡ p i) → (k : ℕ) (is : List Item) → first_where p k is ≡ item_of (first_met f k is)
first_same p f same k [] = refl
first_same p f same k (i ∷ is) =
    ap (λ (b : Bool). if b then Some k else first_where p (suc k) is) (sym (same i))
    ∙ one (f i) k (first_where p (suc k) is) (first_met f (suc k) is) (first_same p f same (suc k) is)

pub at_items : (check : Check) (u : PlainUnit) (found : Option (ℕ × ℕ)) → false ≡ (condition check u).head → found ≡ first_met (excess check u) 1 (items_all u.body [] []) → item_of found ≡ least_item u (condition check u)
at_items check u found head h = sym (
    ap (λ (b : Bool). if b then Some 0 else first_where (condition check u).inside 1 (items_all u.body [] [])) (sym head)
    ∙ first_same (condition check u).inside (excess check u) (there check u) 1 (items_all u.body [] []) ∙ ap item_of (sym h))
