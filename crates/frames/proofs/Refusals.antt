-- Where no refusal of a unit holds, its head is good.
use Rattle.std.proofs.Common.{◌≡◌, ℕ, zero, suc, Bool, true, false, cond, List, [], ◌∷◌, map, Option, Some, None, refl, sym, ap}
use Rattle.std.specs.Prelude.{slice_get}
use Rattle.c_tree.specs.Plain.{PlainUnit}
use Rattle.acceptance.specs.Items.{Condition, first_where, least_item, lowest, items_all}
use Rattle.acceptance.specs.Head.{bad_range, extent_not_affine, extent_terms_too_large}
use Rattle.acceptance.specs.Printed.{name_twice, at_head, printed_conditions, IsAcceptedPrinted}
use Rattle.acceptance.specs.Sources.{not_affine, coefficient_too_large, judged, IsAcceptedSource}
use Rattle.frames.specs.Heads.{HasGoodHead}

-- no number is answered where none has an item
one_of : (js : List (ℕ × Option ℕ)) → lowest js ≡ None → (k n : ℕ) (o : Option ℕ) → slice_get js k ≡ Some (n, o) → o ≡ None
one_of [] e k n o g = cc
one_of ((m, None) ∷ js) e zero n o g = let s : (let p : ℕ × Option ℕ = (m, None) in p) ≡ (let p : ℕ × Option ℕ = (n, o) in p) = cc in sym (ap (λ (p : ℕ × Option ℕ). p.1) s)
one_of ((m, None) ∷ js) e (suc k) n o g = one_of js e k n o g
one_of ((m, Some item) ∷ js) e k n o g = absurd (let f : Some (m, item) ≡ None = e in cc)

not_head : (b : Bool) (n : ℕ) (o : Option ℕ) → cond b (Some n) o ≡ None → b ≡ false
not_head true n o e = absurd (let f : Some n ≡ None = e in cc)
not_head false n o e = refl

none_at_head : (u : PlainUnit) (c : Condition) → least_item u c ≡ None → c.head ≡ false
none_at_head u c e = not_head c.head 0 (first_where c.inside 1 (items_all u.body [] [])) e

pub source_is_good : (u : PlainUnit) → IsAcceptedSource u → HasGoodHead u
source_is_good u a =
    let none = one_of (judged u) a.refused_nowhere in
    record {
      names = none_at_head u (name_twice u) (none 0 4 (least_item u (name_twice u)) refl);
      ranges = none_at_head u (bad_range u) (none 3 7 (least_item u (bad_range u)) refl);
      affine = none_at_head u (not_affine u) (none 5 9 (least_item u (not_affine u)) refl);
      small = none_at_head u (coefficient_too_large u) (none 6 10 (least_item u (coefficient_too_large u)) refl);
    }

pub printed_is_good : (u : PlainUnit) → IsAcceptedPrinted u → HasGoodHead u
printed_is_good u a =
    let none = one_of (map (λ c. (c.0, least_item u c.1)) (printed_conditions u)) a.refused_nowhere in
    record {
      names = none_at_head u (name_twice u) (none 0 4 (least_item u (name_twice u)) refl);
      ranges = none_at_head u (bad_range u) (none 2 7 (least_item u (bad_range u)) refl);
      affine = none_at_head u (at_head (extent_not_affine u)) (none 3 9 (least_item u (at_head (extent_not_affine u))) refl);
      small = none_at_head u (at_head (extent_terms_too_large u)) (none 4 10 (least_item u (at_head (extent_terms_too_large u))) refl);
    }
