-- The first count of an item that is over its limit.
use Rattle.std.proofs.Common.{◌≡◌, ℕ, suc, Bool, true, false, if◌then◌else◌, nat_lt, List, [], ◌∷◌, Option, Some, None, refl, sym, ap, ◌∙◌}
use Rattle.c_tree.specs.Plain.{PlainUnit}
use Rattle.c_tree.specs.declared.refusal.Counted.{Counted}
use Rattle.acceptance.specs.Items.{Item, items_all}
use Rattle.acceptance.specs.Limits.{Excess, depth, reads_of, first_over as first_over_limit}
use Rattle.kernel_check.specs.Conditions.{carries_count, excess, over}
use Rattle.kernel_check.specs.Excesses.{first_over}
use Rattle.kernel_check.specs.Scans.{met_or, first_met}
use Rattle.kernel_check.specs.declared.conditions.Check.{Check}
use Rattle.kernel_check.specs.declared.conditions.Check.TheVariants as c

abbrev pub shown : Counted → Option (ℕ × ℕ) → Option Excess
shown counted None = None
shown counted (Some p) = Some (record { counted = counted; count = p.1; item = p.0 })

one : (counted : Counted) (b : Bool) (n k : ℕ) (r : Option Excess) (s : Option (ℕ × ℕ)) → r ≡ shown counted s →
    (if b then Some (record { counted = counted; count = n; item = k }) else r) ≡ shown counted (met_or (if b then Some n else None) k s)
one counted true n k r s h = refl
one counted false n k r s h = h

over_same : (counted : Counted) (most : ℕ) (f : Item → ℕ) (k : ℕ) (is : List Item) → first_over_limit counted most f k is ≡ shown counted (first_met (λ i. over most (f i)) k is)
over_same counted most f k [] = refl
over_same counted most f k (i ∷ is) = one counted (nat_lt most (f i)) (f i) k _ _ (over_same counted most f (suc k) is)

pub at_count : (check : Check) (counted : Counted) (u : PlainUnit) (found : Option (ℕ × ℕ)) → carries_count check ≡ true → found ≡ first_met (excess check u) 1 (items_all u.body [] []) → shown counted found ≡ first_over check counted u
at_count c.TooDeep counted u found h e = ap (shown counted) e ∙ sym (over_same counted 6 depth 1 (items_all u.body [] []))
at_count c.TooManyReads counted u found h e = ap (shown counted) e ∙ sym (over_same counted 16 (λ i. reads_of i.stmt) 1 (items_all u.body [] []))
at_count _ counted u found h e = absurd (let f : ⊥ = cc in f)
