-- The intervals that are kept at the loops are those of the definition, where they are asked for.
use Rattle.std.proofs.Common.{◌≡◌, subst}
use Rattle.acceptance.specs.Head.{intervals_of}
use Rattle.acceptance.specs.Parts.{intervals_in}
use Rattle.scopes.specs.Scopes.{declared_in, kept_intervals, loops_in}
use Rattle.scopes.specs.declared.scope.Scope.{Scope}
use Rattle.kernel_check.specs.Conditions.{IsRanged}
use Rattle.kernel_check.specs.declared.conditions.Check.{Check}
use Rattle.kernel_check.specs.declared.conditions.Check.TheVariants.{IntervalTooWide}

pub ranged : (check : Check) (sc : Scope) → check ≡ IntervalTooWide → IsRanged check sc →
    kept_intervals (intervals_of (declared_in sc.declared.now)) sc.around.now ≡ intervals_in (intervals_of (declared_in sc.declared.now)) (loops_in sc.around.now)
ranged check sc is h = subst (λ (k : Check). IsRanged k sc) is h
