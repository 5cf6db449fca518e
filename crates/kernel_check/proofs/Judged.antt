-- Refusals of lists of conditions.
use Rattle.std.proofs.Common.{◌≡◌, inl, inr, ℕ, suc, ◌+◌, ◌<◌, List, [], ◌∷◌, ◌++◌, map, length, drop, drop-cons, get_or, Option, Some, None, Result, Ok, Err, refl, ap, ◌∙◌, arith, Bool, true, false, if◌then◌else◌}
use Rattle.c_tree.specs.Plain.{PlainUnit}
use Rattle.c_tree.specs.declared.refusal.Refusal.{Refusal}
use Rattle.acceptance.specs.Head.{extent_too_wide, extent_not_positive}
use Rattle.acceptance.specs.Items.{Item, Condition, items_all, first_where, least_item, lowest}
use Rattle.acceptance.specs.Printed.{at_head}
use Rattle.acceptance.specs.Sources.{interval_too_wide}
use Rattle.kernel_check.specs.Conditions.{judgement}
use Rattle.kernel_check.specs.declared.conditions.Check.{Check}
use Rattle.kernel_check.specs.declared.conditions.Check.TheVariants as c
use Rattle.kernel_check.specs.Judging.{number_of, IsLowest, IsJudged, twelfth}

longer : (j : ℕ × Option ℕ) (js : List (ℕ × Option ℕ)) (p : ℕ × ℕ) → lowest (j ∷ []) ≡ Some p → lowest (j ∷ js) ≡ Some p
longer (n, None) js p h = absurd (let f : ⊥ = cc in f)
longer (n, Some item) js p h = h

none_here : (j : ℕ × Option ℕ) (js : List (ℕ × Option ℕ)) → lowest (j ∷ []) ≡ None → lowest (j ∷ js) ≡ lowest js
none_here (n, None) js h = refl
none_here (n, Some item) js h = absurd (let f : ⊥ = cc in f)

pub lowest_here : (u : PlainUnit) (xs js : List (ℕ × Option ℕ)) (j : ℕ × Option ℕ) (why : Refusal) → lowest xs ≡ lowest (j ∷ js) → IsLowest u (j ∷ []) why → IsLowest u xs why
lowest_here u xs js j why same h = record {
  item = h.item;
  carried = h.carried;
  lowest_is = same ∙ longer j js (number_of why, h.item) h.lowest_is;
  counted = h.counted;
}

pub refused_here : (u : PlainUnit) (xs js : List (ℕ × Option ℕ)) (j : ℕ × Option ℕ) (why : Refusal) → lowest xs ≡ lowest (j ∷ js) → IsJudged u (j ∷ []) (Err why) → IsJudged u xs (Err why)
refused_here u xs js j why same (inl h) = inl h
refused_here u xs js j why same (inr h) = inr (lowest_here u xs js j why same h)

pub at_check : {A : Type 0} (judge : A → ℕ × Option ℕ) (cs : List A) (k : ℕ) (c : A) → k < length cs → map judge (drop k cs) ≡ judge (get_or cs k c) ∷ map judge (drop (k + 1) cs)
at_check judge cs k c h = ap (map judge) (drop-cons cs k c h) ∙ ap (λ (j : ℕ). judge (get_or cs k c) ∷ map judge (drop j cs)) (let g : suc k ≡ k + 1 = omega arith in g)

-- ---- lists in a row

after_none : (j : ℕ × Option ℕ) (js ys : List (ℕ × Option ℕ)) → lowest (j ∷ js) ≡ None → (lowest js ≡ None → lowest (js ++ ys) ≡ lowest ys) → lowest (j ∷ (js ++ ys)) ≡ lowest ys
after_none (n, None) js ys h go = go h
after_none (n, Some item) js ys h go = absurd (let f : ⊥ = cc in f)

pub none_before : (xs ys : List (ℕ × Option ℕ)) → lowest xs ≡ None → lowest (xs ++ ys) ≡ lowest ys
none_before [] ys h = refl
none_before (x ∷ xs) ys h = after_none x xs ys h (none_before xs ys)

some_first : (j : ℕ × Option ℕ) (js ys : List (ℕ × Option ℕ)) (p : ℕ × ℕ) → lowest (j ∷ js) ≡ Some p → (lowest js ≡ Some p → lowest (js ++ ys) ≡ Some p) → lowest (j ∷ (js ++ ys)) ≡ Some p
some_first (n, None) js ys p h go = go h
some_first (n, Some item) js ys p h go = h

some_before : (xs ys : List (ℕ × Option ℕ)) (p : ℕ × ℕ) → lowest xs ≡ Some p → lowest (xs ++ ys) ≡ Some p
some_before [] ys p h = absurd (let f : ⊥ = cc in f)
some_before (x ∷ xs) ys p h = some_first x xs ys p h (some_before xs ys p)

module _ (u : PlainUnit) (xs ys : List (ℕ × Option ℕ)) where
  pub refused_before : (why : Refusal) → IsJudged u xs (Err why) → IsJudged u (xs ++ ys) (Err why)
  refused_before why (inl h) = inl h
  refused_before why (inr h) = inr (record { item = h.item; carried = h.carried; lowest_is = some_before xs ys (number_of why, h.item) h.lowest_is; counted = h.counted })

  pub judged_after : lowest xs ≡ None → (r : Result (Unit {0}) Refusal) → IsJudged u ys r → IsJudged u (xs ++ ys) r
  judged_after none (Ok done) h = none_before xs ys none ∙ h
  judged_after none (Err why) (inl h) = inl h
  judged_after none (Err why) (inr h) = inr (record { item = h.item; carried = h.carried; lowest_is = none_before xs ys none ∙ h.lowest_is; counted = h.counted })

-- ---- the lists of the code

abbrev pub checked : PlainUnit → List Check → List (ℕ × Option ℕ)
checked u cs = map (judgement u) cs

abbrev pub names : List Check
names = c.NameTwice ∷ c.NameUnknown ∷ c.ReservedName ∷ c.BadRange ∷ []

abbrev pub sums : List Check
sums = c.NotAffine ∷ c.CoefficientTooLarge ∷ c.IntervalTooWide ∷ []

abbrev pub cells : List Check
cells = c.WrongDimensions ∷ c.WriteToConst ∷ c.BadIndexArray ∷ c.BadLiteral ∷ c.IrregularWrite ∷ []

abbrev pub printed_names : List Check
printed_names = c.NameTwice ∷ c.NameUnknown ∷ c.BadRange ∷ c.ExtentNotAffine ∷ c.ExtentTermsTooLarge ∷ c.ExtentTooWide ∷ []

abbrev pub kinds : List Check
kinds = c.WrongDimensions ∷ c.BadLiteral ∷ c.WrongKind ∷ []

-- ---- extents

nowhere : (k : ℕ) (is : List Item) → first_where (λ i. false) k is ≡ None
nowhere k [] = refl
nowhere k (i ∷ is) = nowhere (suc k) is

pub at_head_alone : (u : PlainUnit) (b : Bool) → least_item u (at_head b) ≡ (if b then Some 0 else None)
at_head_alone u true = refl
at_head_alone u false = nowhere 1 (items_all u.body [] [])

head_false : (u : PlainUnit) (k : Condition) → least_item u k ≡ None → k.head ≡ false
head_false u k h = by k.head (first_where k.inside 1 (items_all u.body [] [])) h where
  by : (b : Bool) (o : Option ℕ) → (if b then Some 0 else o) ≡ None → b ≡ false
  by true o e = absurd (let f : ⊥ = cc in f)
  by false o e = refl

-- where none of these holds, the last doesn't
third_none : (a b d : ℕ × Option ℕ) → lowest (a ∷ b ∷ d ∷ []) ≡ None → d.1 ≡ None
third_none (n, None) (m, None) (k, None) h = refl
third_none (n, None) (m, None) (k, Some i) h = absurd (let f : ⊥ = cc in f)
third_none (n, None) (m, Some i) d h = absurd (let f : ⊥ = cc in f)
third_none (n, Some i) b d h = absurd (let f : ⊥ = cc in f)

pub sums_narrow : (u : PlainUnit) → lowest (checked u sums) ≡ None → extent_too_wide u ≡ false
sums_narrow u h = head_false u (interval_too_wide u) (third_none (judgement u c.NotAffine) (judgement u c.CoefficientTooLarge) (judgement u c.IntervalTooWide) h)

past_three : (a b d : ℕ × Option ℕ) (js : List (ℕ × Option ℕ)) → lowest (a ∷ b ∷ d ∷ js) ≡ None → lowest js ≡ None
past_three (n, None) (m, None) (k, None) js h = h
past_three (n, None) (m, None) (k, Some i) js h = absurd (let f : ⊥ = cc in f)
past_three (n, None) (m, Some i) d js h = absurd (let f : ⊥ = cc in f)
past_three (n, Some i) b d js h = absurd (let f : ⊥ = cc in f)

pub extents_narrow : (u : PlainUnit) → lowest (checked u printed_names) ≡ None → extent_too_wide u ≡ false
extents_narrow u h = head_false u (at_head (extent_too_wide u))
    (third_none (judgement u c.ExtentNotAffine) (judgement u c.ExtentTermsTooLarge) (judgement u c.ExtentTooWide)
    (past_three (judgement u c.NameTwice) (judgement u c.NameUnknown) (judgement u c.BadRange)
    (judgement u c.ExtentNotAffine ∷ judgement u c.ExtentTermsTooLarge ∷ judgement u c.ExtentTooWide ∷ []) h))

pub positive_none : (u : PlainUnit) → extent_not_positive u ≡ false → lowest (twelfth u ∷ []) ≡ None
positive_none u h = ap (λ (o : Option ℕ). lowest ((12, o) ∷ [])) (at_head_alone u (extent_not_positive u) ∙ ap (λ (b : Bool). if b then Some 0 else None) h)
