-- Constants and coefficients as the code finds them: 0 where some part of the expression has a larger one.
use Rattle.std.specs.Prelude.{ℤ, pos, Option, Some, None}
use Rattle.affine_checks.specs.Linear.{constant, terms}
use Rattle.sites.specs.Classes.{Terms}

abbrev pub constant_or : Option ℤ → ℤ
constant_or None = pos 0
constant_or (Some k) = k

abbrev pub coefficient_or : Option (ℤ × ℤ) → ℤ
coefficient_or None = pos 0
coefficient_or (Some r) = r.1

abbrev pub where_small : Terms
where_small = record { constant_in = λ e. constant_or (constant e); coefficient_in = λ x e. coefficient_or (terms x e) }
