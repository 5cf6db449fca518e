-- The refusals of whole units, list by list.
use Rattle.std.proofs.Common.{◌≡◌, ℕ, List, [], ◌∷◌, ◌++◌, Option, None, Result, Err}
use Rattle.c_tree.specs.Plain.{PlainUnit}
use Rattle.c_tree.specs.declared.refusal.Refusal.{Refusal}
use Rattle.acceptance.specs.Items.{lowest}
use Rattle.acceptance.specs.Sources.{judged}
use Rattle.kernel_check.specs.Excesses.{eighth}
use Rattle.kernel_check.specs.Judging.{IsJudged, twelfth, printed_judged}
use Rattle.kernel_check.proofs.Judged.{refused_before, judged_after, checked, names, sums, cells, printed_names, kinds}

module _ (u : PlainUnit) where
  abbrev from_extents : List (ℕ × Option ℕ)
  from_extents = twelfth u ∷ checked u cells

  abbrev from_sums : List (ℕ × Option ℕ)
  from_sums = checked u sums ++ from_extents

  abbrev from_counts : List (ℕ × Option ℕ)
  from_counts = eighth u ∷ from_sums

  module _ (first : lowest (checked u names) ≡ None) where
    on_counts : (r : Result (Unit {0}) Refusal) → IsJudged u from_counts r → IsJudged u (judged u) r
    on_counts r h = judged_after u (checked u names) from_counts first r h

    module _ (second : lowest (eighth u ∷ []) ≡ None) where
      on_sums : (r : Result (Unit {0}) Refusal) → IsJudged u from_sums r → IsJudged u (judged u) r
      on_sums r h = on_counts r (judged_after u (eighth u ∷ []) from_sums second r h)

      module _ (third : lowest (checked u sums) ≡ None) where
        on_extents : (r : Result (Unit {0}) Refusal) → IsJudged u from_extents r → IsJudged u (judged u) r
        on_extents r h = on_sums r (judged_after u (checked u sums) from_extents third r h)

        pub extents_refused : (why : Refusal) → IsJudged u (twelfth u ∷ []) (Err why) → IsJudged u (judged u) (Err why)
        extents_refused why h = on_extents (Err why) (refused_before u (twelfth u ∷ []) (checked u cells) why h)

        pub cells_judged : lowest (twelfth u ∷ []) ≡ None → (r : Result (Unit {0}) Refusal) → IsJudged u (checked u cells) r → IsJudged u (judged u) r
        cells_judged fourth r h = on_extents r (judged_after u (twelfth u ∷ []) (checked u cells) fourth r h)

      pub sums_refused : (why : Refusal) → IsJudged u (checked u sums) (Err why) → IsJudged u (judged u) (Err why)
      sums_refused why h = on_sums (Err why) (refused_before u (checked u sums) from_extents why h)

    pub counts_refused : (why : Refusal) → IsJudged u (eighth u ∷ []) (Err why) → IsJudged u (judged u) (Err why)
    counts_refused why h = on_counts (Err why) (refused_before u (eighth u ∷ []) from_sums why h)

  pub names_refused : (why : Refusal) → IsJudged u (checked u names) (Err why) → IsJudged u (judged u) (Err why)
  names_refused why h = refused_before u (checked u names) from_counts why h

  -- ---- printed units

  abbrev from_printed_extents : List (ℕ × Option ℕ)
  from_printed_extents = twelfth u ∷ checked u kinds

  pub printed_names_refused : (why : Refusal) → IsJudged u (checked u printed_names) (Err why) → IsJudged u (printed_judged u) (Err why)
  printed_names_refused why h = refused_before u (checked u printed_names) from_printed_extents why h

  module _ (first : lowest (checked u printed_names) ≡ None) where
    pub printed_extents_refused : (why : Refusal) → IsJudged u (twelfth u ∷ []) (Err why) → IsJudged u (printed_judged u) (Err why)
    printed_extents_refused why h = judged_after u (checked u printed_names) from_printed_extents first (Err why) (refused_before u (twelfth u ∷ []) (checked u kinds) why h)

    pub kinds_judged : lowest (twelfth u ∷ []) ≡ None → (r : Result (Unit {0}) Refusal) → IsJudged u (checked u kinds) r → IsJudged u (printed_judged u) r
    kinds_judged second r h = judged_after u (checked u printed_names) from_printed_extents first r (judged_after u (twelfth u ∷ []) (checked u kinds) second r h)
