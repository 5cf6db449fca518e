-- The value of an affine expression lies in its interval.
use Rattle.std.specs.Prelude.{◌≡◌, ◌≤ℤ◌, true, List, ℤ, map}
use Rattle.c_tree.specs.Plain.{Word, PlainExpr, PlainParam}
use Rattle.c_tree.specs.Values.{Vars, value_in, signed, exact}
use Rattle.c_tree.specs.Arrays.{vars_of}
use Rattle.c_tree.specs.Inputs.{AreInRange}
use Rattle.acceptance.specs.Items.{Scope, is_signed_name, is_int}
use Rattle.acceptance.specs.Affine.{is_affine, holds_throughout, Interval, Intervals, interval_in, interval, is_narrow}

-- a number between the ends of an interval
pub record Within (i : Interval) (z : ℤ) : Type 0 where
  pub low : i.0 ≤ℤ z
  pub high : z ≤ℤ i.1

-- the value of each signed name lies in its interval
pub record Suits (rs : Intervals) (sc : Scope) (vs : Vars) : Type 0 where
  pub within : (x : Word) → is_signed_name sc x ≡ true → Within (interval_in rs x) (value_in vs x)

-- The exact value of an affine expression lies in its interval.
abbrev pub ValuesLieWithin : Type 0
ValuesLieWithin = (rs : Intervals) (sc : Scope) (vs : Vars) → Suits rs sc vs → (e : PlainExpr) → is_affine sc e ≡ true →
    Within (interval rs e) (exact e vs)

-- Where the interval of each part is narrow, the value in signed words of 64 bits is the exact one.
abbrev pub NarrowValuesAreExact : Type 0
NarrowValuesAreExact = (rs : Intervals) (sc : Scope) (vs : Vars) → Suits rs sc vs → (e : PlainExpr) → is_affine sc e ≡ true →
    holds_throughout (is_narrow rs) e ≡ true → signed e vs ≡ exact e vs

-- the intervals of range lines
abbrev pub lines : List (Word × ℤ × ℤ) → Intervals
lines = map (λ r. (r.0, (r.1, r.2)))

-- The value of each `int64_t` parameter lies in the interval of its range line.
abbrev pub ParametersLieWithin : Type 0
ParametersLieWithin = (rs : List (Word × ℤ × ℤ)) (ps : List PlainParam) (ns : List ℤ) → AreInRange rs ps ns →
    (x : Word) → is_int ps x ≡ true → Within (interval_in (lines rs) x) (value_in (vars_of ps ns) x)
