-- How the code reads a difference. That it is the difference meant is shown in proofs/DifferenceLaws.
use Rattle.std.specs.Prelude.{◌&&◌, List, [], ◌∷◌, ℤ, if◌then◌else◌, Option, Some, None}
use Rattle.affine_sets.specs.Sums.{Term}
use Rattle.affine_sets.specs.Differences.{is_1, is_minus_1}
use Rattle.affine_sets.specs.declared.difference.Diff.{Diff}

abbrev pub of_one : ℤ → Term → Option Diff
of_one c t = if is_1 t.1 then Some (record { x = t.0; y = 0; c = c }) else (if is_minus_1 t.1 then Some (record { x = 0; y = t.0; c = c }) else None)

abbrev pub of_two : ℤ → Term → Term → Option Diff
of_two c t u =
    if is_1 t.1 && is_minus_1 u.1 then Some (record { x = t.0; y = u.0; c = c })
    else (if is_minus_1 t.1 && is_1 u.1 then Some (record { x = u.0; y = t.0; c = c }) else None)

abbrev pub of_terms : ℤ → List Term → Option Diff
of_terms c [] = Some (record { x = 0; y = 0; c = c })
of_terms c (t ∷ []) = of_one c t
of_terms c (t ∷ u ∷ []) = of_two c t u
of_terms c (t ∷ u ∷ w ∷ ts) = None
