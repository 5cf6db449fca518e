use Rattle.std.proofs.Common.{refl, arith}
use Rattle.std.proofs.lemmas.Fmt.{decimal_digit}
use Rattle.fault_plan.proofs.sample_meets_conditions.Goals as goal

pub returns : goal.returns
returns c = record {
  fits = record { array = omega arith; cell = omega arith; bit = omega arith };
  name = record { some = omega arith; solid = (refl, tt) };
  text = rw (decimal_digit 1 (omega arith), decimal_digit 3 (omega arith), decimal_digit 2 (omega arith)) refl;
}
