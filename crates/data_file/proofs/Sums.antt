-- Sums of small numbers, and products that stay at a bound.
use Rattle.std.proofs.Common.{◌≡◌, ℕ, zero, suc, ◌+◌, ◌-◌, ◌*◌, ◌^◌, ◌<◌, ◌≤◌, min, List, length, map, drop, get_or, fold, slice_get, Option, Some, None, ℤ, pos, negsuc, ◌+ℤ◌, unsigned_abs, int_lt, Bool, true, false, ◌||◌, refl, sym, ap, ◌∙◌, subst, arith, ◌⊎◌, inl, inr}
use Rattle.std.proofs.lemmas.List.{at_drop_more}
use Rattle.std.proofs.lemmas.Bool.{ltb-false}
use Rattle.std.proofs.lemmas.Option.{slice_get-get_or, slice_get_within}
use Rattle.std.proofs.lemmas.Int.{ints, unsigned_abs-mul}
use native.Mathlib.Nat.{mul-le-mul, mul_assoc, mul_comm}
use Rattle.c_tree.specs.Arrays.{cell_count, size_of}
use Rattle.c_tree.specs.declared.frame.Frame.{Frame}
use Rattle.c_tree.specs.declared.frame.Inputs.{Inputs}
use Rattle.data_file.specs.Checks.{NonePasses, outside, is_outside, value_in, value_of, term_value}
use Rattle.data_file.specs.Conditions.{AreSmall, IsFrame, HasRows}
use Rattle.data_file.proofs.CarriedInputs.{item_at}

pub abs-add : (a b : ℤ) → unsigned_abs (a +ℤ b) ≤ unsigned_abs a + unsigned_abs b
abs-add (pos a) (pos b) = omega arith
abs-add (negsuc a) (negsuc b) = omega arith
abs-add (pos a) (negsuc b) = omega (arith, ints)
abs-add (negsuc a) (pos b) = omega (arith, ints)

abs-value : (ints : List ℤ) (v : ℕ) → AreSmall ints → unsigned_abs (value_of ints v) ≤ 2 ^ 40
abs-value ints v small = by (slice_get ints (v - 1)) refl where
  by : (o : Option ℤ) → slice_get ints (v - 1) ≡ o → unsigned_abs (value_in (slice_get ints (v - 1))) ≤ 2 ^ 40
  by None e = rw e (omega arith)
  by (Some n) e = rw e (small (v - 1) n e)

pub abs-term : (ints : List ℤ) (t : ℕ × ℤ) → AreSmall ints → unsigned_abs t.1 ≤ 2 ^ 20 → unsigned_abs (term_value ints t) ≤ 2 ^ 60
abs-term ints t small few =
    let product : unsigned_abs t.1 * unsigned_abs (value_of ints t.0) ≤ 2 ^ 20 * 2 ^ 40 = mul-le-mul few (abs-value ints t.0 small) in
    subst (λ (n : ℕ). n ≤ 2 ^ 60) (sym (unsigned_abs-mul t.1 (value_of ints t.0))) (omega (arith, product))

-- a factor may be cut at the bound before the product is
cut_factor : (a r most : ℕ) → min (min a most * r) most ≡ min (a * r) most
cut_factor a r most = by (cases_le a most) where
  cases_le : (m n : ℕ) → (m ≤ n) ⊎ (n < m)
  cases_le m n = grind arith

  over : (r : ℕ) → most < a → min (most * r) most ≡ min (a * r) most
  over zero lt = grind arith
  over (suc r) lt =
      let one : most * 1 ≤ most * suc r = mul-le-mul (omega arith) (omega arith) in
      let two : most * suc r ≤ a * suc r = mul-le-mul (omega arith) (omega arith) in
      omega (arith, one, two)

  by : (a ≤ most) ⊎ (most < a) → min (min a most * r) most ≡ min (a * r) most
  by (inl le) = let e : min a most ≡ a = omega arith in ap (λ n. min (n * r) most) e
  by (inr lt) = let e : min a most ≡ most = omega arith in ap (λ n. min (n * r) most) e ∙ over r lt

-- one factor more
pub one_factor : (c s r most : ℕ) → min (min (c * min s most) most * r) most ≡ min (c * (s * r)) most
one_factor c s r most =
    let regroup : (c * min s most) * r ≡ min s most * (c * r) = ap (λ n. n * r) (mul_comm c (min s most)) ∙ mul_assoc (min s most) c r in
    let back : s * (c * r) ≡ c * (s * r) = sym (mul_assoc s c r) ∙ ap (λ n. n * r) (mul_comm s c) ∙ mul_assoc c s r in
    cut_factor (c * min s most) r most ∙ ap (λ n. min n most) regroup ∙ cut_factor s (c * r) most ∙ ap (λ n. min n most) back

-- ---- one term more

module _ (ints : List ℤ) (terms items : List (ℕ × ℤ)) (k : ℕ) (total r c : ℤ) (within : k < length items) (same : items ≡ terms)
    (coefficient : c ≡ (get_or items k (0, pos 0)).1) (value : r ≡ term_value ints ((get_or items k (0, pos 0)).0, c)) where
  value_is : r ≡ term_value ints (get_or items k (0, pos 0))
  value_is = value ∙ ap (λ (z : ℤ). term_value ints ((get_or items k (0, pos 0)).0, z)) coefficient

  pub small_more : AreSmall ints → ((j : ℕ) (t : ℕ × ℤ) → slice_get terms j ≡ Some t → unsigned_abs t.1 ≤ 2 ^ 20) → unsigned_abs total ≤ 2 ^ 20 + k * 2 ^ 60 → unsigned_abs (total +ℤ r) ≤ 2 ^ 20 + (k + 1) * 2 ^ 60
  small_more small few bound =
      let t = get_or items k (0, pos 0) in
      let at : slice_get terms k ≡ Some t = ap (λ (z : List (ℕ × ℤ)). slice_get z k) (sym same) ∙ slice_get-get_or items k (0, pos 0) within in
      let term : unsigned_abs r ≤ 2 ^ 60 = subst (λ (z : ℤ). unsigned_abs z ≤ 2 ^ 60) (sym value_is) (abs-term ints t small (few k t at)) in
      let sum = abs-add total r in
      omega (arith, sum, term, bound)

  pub summed_more : {whole : ℤ} → fold (λ (z : ℤ) (t : ℕ × ℤ). z +ℤ term_value ints t) total (drop k items) ≡ whole → fold (λ (z : ℤ) (t : ℕ × ℤ). z +ℤ term_value ints t) (total +ℤ r) (drop (k + 1) items) ≡ whole
  summed_more h =
      ap (λ (z : ℤ). fold (λ (y : ℤ) (t : ℕ × ℤ). y +ℤ term_value ints t) (total +ℤ z) (drop (k + 1) items)) value_is
      ∙ sym (at_drop_more (fold (λ (y : ℤ) (t : ℕ × ℤ). y +ℤ term_value ints t) total) items k (0, pos 0) within) ∙ h

-- one extent more
pub counted_more : {A : Type 0} (value : A → ℤ) (items : List A) (k count capped next whole : ℕ) (e : A) (z : ℤ) → k < length items → e ≡ get_or items k e → z ≡ value e
    → capped ≡ min (size_of z) 4194305 → next ≡ min (count * capped) 4194305 → min (count * cell_count (map value (drop k items))) 4194305 ≡ whole
    → min (next * cell_count (map value (drop (k + 1) items))) 4194305 ≡ whole
counted_more value items k count capped next whole e z within is sum cap made h =
    let rest = cell_count (map value (drop (k + 1) items)) in
    let size : size_of z ≡ size_of (value (get_or items k e)) = ap size_of (sum ∙ ap value is) in
    let now : next ≡ min (count * min (size_of (value (get_or items k e))) 4194305) 4194305 =
    made ∙ ap (λ n. min (count * n) 4194305) (cap ∙ ap (λ n. min n 4194305) size) in
    ap (λ n. min (n * rest) 4194305) now ∙ one_factor count (size_of (value (get_or items k e))) rest 4194305
    ∙ ap (λ n. min (count * n) 4194305) (sym (at_drop_more (λ xs. cell_count (map value xs)) items k e within)) ∙ h

-- ---- values within small ranges

between : (low high n : ℤ) → int_lt n low ≡ false → int_lt high n ≡ false → unsigned_abs low ≤ 2 ^ 40 → unsigned_abs high ≤ 2 ^ 40 → unsigned_abs n ≤ 2 ^ 40
between low (pos h) (pos m) above below p q = omega (arith, ltb-false h m below)
between low (negsuc h) (pos m) above below p q = absurd (let no : ⊥ = cc in no)
between (pos l) high (negsuc m) above below p q = absurd (let no : ⊥ = cc in no)
between (negsuc l) high (negsuc m) above below p q = omega (arith, ltb-false l m above)

neither : (x y : Bool) → (x || y) ≡ false → (x ≡ false) × (y ≡ false)
neither true y e = absurd (let no : ⊥ = cc in no)
neither false y e = (refl, e)

pub small_values : (f : Frame) (i : Inputs) → IsFrame f → HasRows f i → NonePasses (is_outside f i.ints) (length f.ints) → AreSmall i.ints
small_values f i frame rows within k n at =
    let below : k < length f.ints = omega (arith, slice_get_within i.ints k n at, rows.values) in
    let (p, there) = item_at f.ints k below in
    let test : (int_lt n p.1 || int_lt p.2 n) ≡ false = sym (ap (λ o. outside o (slice_get i.ints k)) there ∙ ap (outside (Some p)) at) ∙ within k below in
    let (above, beyond) = neither (int_lt n p.1) (int_lt p.2 n) test in
    let (low, high) = frame.ranges k p there in
    between p.1 p.2 n above beyond low high
