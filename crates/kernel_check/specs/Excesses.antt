-- The counts of the code.
use Rattle.std.specs.Prelude.{ℕ, List, [], ◌∷◌, length, Option, None}
use Rattle.c_tree.specs.Plain.{PlainUnit}
use Rattle.c_tree.specs.declared.refusal.Counted.{Counted}
use Rattle.c_tree.specs.declared.refusal.Counted.TheVariants.{Parameters, Arrays, Scalars}
use Rattle.acceptance.specs.Items.{items_all}
use Rattle.acceptance.specs.Limits.{Excess, depth, reads_of, int_count, array_count, overall, too_many, first_over as first_over_limit}
use Rattle.acceptance.specs.Sources.{item_of}
use Rattle.kernel_check.specs.declared.conditions.Check.{Check}
use Rattle.kernel_check.specs.declared.conditions.Check.TheVariants.{TooDeep, TooManyReads}
use Rattle.kernel_check.specs.declared.counts.Excess.{Excess as TheExcess}

abbrev pub excess_in : TheExcess → Excess
excess_in e = record { counted = e.counted; count = e.count; item = e.item }

-- the first item at which a count is over its limit
abbrev pub first_over : Check → Counted → PlainUnit → Option Excess
first_over TooDeep counted u = first_over_limit counted 6 depth 1 (items_all u.body [] [])
first_over TooManyReads counted u = first_over_limit counted 16 (λ i. reads_of i.stmt) 1 (items_all u.body [] [])
first_over _ counted u = None

-- the counts of the head
abbrev pub in_head_of : PlainUnit → List (Option Excess)
in_head_of u = overall Parameters 8 (int_count u.params) ∷ overall Arrays 16 (array_count u.params) ∷ overall Scalars 16 (length u.words) ∷ []

-- the eighth number with its item
abbrev pub eighth : PlainUnit → ℕ × Option ℕ
eighth u = (8, item_of (too_many u))
