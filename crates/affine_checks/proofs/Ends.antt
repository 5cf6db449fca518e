-- The intervals of loops, and the least ends of extents.
use Rattle.std.proofs.Common.{◌≡◌, Bool, true, false, not, ◌&&◌, ◌||◌, List, [], ◌∷◌, pos, Some, None, refl, ap, ◌∙◌}
use Rattle.std.specs.Prelude.{int_lt}
use Rattle.std.specs.List.{list_all, list_any}
use Rattle.c_tree.specs.Plain.{PlainExpr, PlainUnit}
use Rattle.c_tree.specs.declared.expr.Rel.{Rel}
use Rattle.acceptance.specs.Affine.{holds_throughout, Interval, Intervals, interval, is_narrow}
use Rattle.acceptance.specs.Head.{extents_in, intervals_of, extent_too_wide, extent_not_positive}
use Rattle.acceptance.specs.Parts.{loop_interval}
use Rattle.affine_checks.specs.Linear.{narrow, begins_below_one, is_low}
use Rattle.affine_checks.proofs.Found.{found_narrow}

-- ---- the interval of a loop

some_same : {A : Type 0} (a b : A) → Some a ≡ Some b → a ≡ b
some_same a b e = cc

found_is : (rs : Intervals) (e : PlainExpr) (i : Interval) → Some i ≡ narrow rs e → holds_throughout (is_narrow rs) e ≡ true → i ≡ interval rs e
found_is rs e i h t = some_same i (interval rs e) (h ∙ found_narrow rs e t)

pub loop_some : (rs : Intervals) (lo hi : PlainExpr) (rel : Rel) (i j w : Interval) → Some i ≡ narrow rs lo → Some j ≡ narrow rs hi → w ≡ loop_interval i rel j
    → holds_throughout (is_narrow rs) lo ≡ true → holds_throughout (is_narrow rs) hi ≡ true → w ≡ loop_interval (interval rs lo) rel (interval rs hi)
loop_some rs lo hi rel i j w f g h p q = h ∙ ap (λ k. loop_interval k rel j) (found_is rs lo i f p) ∙ ap (λ k. loop_interval (interval rs lo) rel k) (found_is rs hi j g q)

no_some : {A : Type 0} (a : A) → None ≡ Some a → ⊥
no_some a e = cc

pub none_narrow : {C : Type 0} (rs : Intervals) (e : PlainExpr) → None ≡ narrow rs e → holds_throughout (is_narrow rs) e ≡ true → C
none_narrow rs e h t = absurd (no_some (interval rs e) (h ∙ found_narrow rs e t))

-- ---- the least ends of extents

abbrev begins_low : Intervals → PlainExpr → Bool
begins_low rs e = int_lt (interval rs e).0 (pos 1)

same_low : (rs : Intervals) (e : PlainExpr) → holds_throughout (is_narrow rs) e ≡ true → is_low rs e ≡ begins_low rs e
same_low rs e t = ap begins_below_one (found_narrow rs e t)

any_same : (b c q r s t : Bool) → (b && c) ≡ true → (b ≡ true → q ≡ r) → (c ≡ true → s ≡ t) → (q || s) ≡ (r || t)
any_same true true q r s t h f g = ap (λ v. v || s) (f refl) ∙ ap (λ v. r || v) (g refl)
any_same true false q r s t h f g = absurd (let k : ⊥ = cc in k)
any_same false c q r s t h f g = absurd (let k : ⊥ = cc in k)

all_low : (rs : Intervals) (es : List PlainExpr) → list_all (holds_throughout (is_narrow rs)) es ≡ true → list_any (is_low rs) es ≡ list_any (begins_low rs) es
all_low rs [] h = refl
all_low rs (e ∷ es) h = any_same (holds_throughout (is_narrow rs) e) (list_all (holds_throughout (is_narrow rs)) es) _ _ _ _ h (same_low rs e) (all_low rs es)

not_false : (b : Bool) → not b ≡ false → b ≡ true
not_false true h = refl
not_false false h = absurd (let k : ⊥ = cc in k)

pub low_is : (u : PlainUnit) → extent_too_wide u ≡ false → list_any (is_low (intervals_of u)) (extents_in u.params) ≡ extent_not_positive u
low_is u h = all_low (intervals_of u) (extents_in u.params) (not_false (list_all (holds_throughout (is_narrow (intervals_of u))) (extents_in u.params)) h)
