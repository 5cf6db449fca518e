-- What is asked of an affine part.
use Rattle.std.specs.Prelude.{Bool}
use Rattle.c_tree.specs.Plain.{PlainExpr}
use Rattle.acceptance.specs.Items.{Scope}
use Rattle.acceptance.specs.Affine.{Intervals, is_affine, has_small_terms, holds_throughout, is_narrow}
use Rattle.affine_checks.specs.declared.demand.Demand.{Demand}
use Rattle.affine_checks.specs.declared.demand.Demand.TheVariants.{Affine, Small, Narrow}

abbrev pub meets : Demand → Scope → Intervals → PlainExpr → Bool
meets Affine sc rs = is_affine sc
meets Small sc rs = has_small_terms sc
meets Narrow sc rs = holds_throughout (is_narrow rs)
