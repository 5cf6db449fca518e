-- How the code finds constants, coefficients and intervals: none, where some part is beyond its limit.
use Rattle.std.specs.Prelude.{◌^◌, Bool, false, ◌&&◌, if◌then◌else◌, ℤ, pos, neg_ℤ, int_lt, bytes_eq, Option, Some, None}
use Rattle.std.specs.Int.{int_min, int_max}
use Rattle.std.specs.Option.{option_and_then}
use Rattle.c_tree.specs.Plain.{Word, PlainExpr, lit, var, un, bin, least, greatest}
use Rattle.acceptance.specs.Affine.{is_small, lies_in, constant_bin, coefficient_bin, Interval, Intervals, interval_in, interval_bin, constant as the_constant, holds_throughout}

-- ---- constants and coefficients

abbrev pub kept_constant : ℤ → Option ℤ
kept_constant k = if is_small k then Some k else None

abbrev pub constant : PlainExpr → Option ℤ
constant (lit n) = kept_constant (pos n)
constant (un op a) = option_and_then (λ k. kept_constant (neg_ℤ k)) (constant a)
constant (bin op a b) = option_and_then (λ k. option_and_then (λ l. kept_constant (constant_bin op k l)) (constant b)) (constant a)
constant (least a b) = option_and_then (λ k. option_and_then (λ l. kept_constant (pos 0)) (constant b)) (constant a)
constant (greatest a b) = option_and_then (λ k. option_and_then (λ l. kept_constant (pos 0)) (constant b)) (constant a)
constant _ = kept_constant (pos 0)

abbrev pub has_small_constant : PlainExpr → Bool
has_small_constant = holds_throughout (λ e. is_small (the_constant e))

abbrev pub kept_terms : ℤ → ℤ → Option (ℤ × ℤ)
kept_terms k c = if is_small k && is_small c then Some (k, c) else None

-- the constant and the coefficient of a name
abbrev pub terms : Word → PlainExpr → Option (ℤ × ℤ)
terms x (lit n) = kept_terms (pos n) (pos 0)
terms x (var y) = kept_terms (pos 0) (if bytes_eq x y then pos 1 else pos 0)
terms x (un op a) = option_and_then (λ r. kept_terms (neg_ℤ r.0) (neg_ℤ r.1)) (terms x a)
terms x (bin op a b) =
    option_and_then (λ r. option_and_then (λ s. kept_terms (constant_bin op r.0 s.0) (coefficient_bin op r.0 r.1 s.0 s.1)) (terms x b)) (terms x a)
terms x (least a b) = option_and_then (λ r. option_and_then (λ s. kept_terms (pos 0) (pos 0)) (terms x b)) (terms x a)
terms x (greatest a b) = option_and_then (λ r. option_and_then (λ s. kept_terms (pos 0) (pos 0)) (terms x b)) (terms x a)
terms x _ = kept_terms (pos 0) (pos 0)

-- ---- intervals

abbrev pub is_narrow_interval : Interval → Bool
is_narrow_interval i = lies_in (pos (2 ^ 62)) i.0 && lies_in (pos (2 ^ 62)) i.1

abbrev pub kept_interval : Interval → Option Interval
kept_interval i = if is_narrow_interval i then Some i else None

abbrev pub narrow : Intervals → PlainExpr → Option Interval
narrow rs (lit n) = kept_interval (pos n, pos n)
narrow rs (var x) = kept_interval (interval_in rs x)
narrow rs (un op a) = option_and_then (λ i. kept_interval (neg_ℤ i.1, neg_ℤ i.0)) (narrow rs a)
narrow rs (bin op a b) = option_and_then (λ i. option_and_then (λ j. kept_interval (interval_bin op i j)) (narrow rs b)) (narrow rs a)
narrow rs (least a b) = option_and_then (λ i. option_and_then (λ j. kept_interval (int_min i.0 j.0, int_min i.1 j.1)) (narrow rs b)) (narrow rs a)
narrow rs (greatest a b) = option_and_then (λ i. option_and_then (λ j. kept_interval (int_max i.0 j.0, int_max i.1 j.1)) (narrow rs b)) (narrow rs a)
narrow rs _ = kept_interval (pos 0, pos 0)

abbrev pub begins_below_one : Option Interval → Bool
begins_below_one None = false
begins_below_one (Some i) = int_lt i.0 (pos 1)

-- narrow throughout, with an interval that begins below 1
abbrev pub is_low : Intervals → PlainExpr → Bool
is_low rs e = begins_below_one (narrow rs e)
