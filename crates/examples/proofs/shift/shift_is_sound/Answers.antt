use Rattle.std.proofs.Common.{refl, arith, lit<, lit≤}
use Rattle.std.proofs.lemmas.Int.{ints}
use Rattle.c_tree.specs.Instances.{core}
use Rattle.c_tree.specs.Inputs.{arrays_for, memory_for}
use Rattle.run_laws.proofs.Within.{clean_is}
use Rattle.examples.specs.Shift.{shift, four}
use Rattle.examples.proofs.shift.shift_is_sound.Goals as goal

pub returns : goal.returns
returns c = record {
  fit = record {
    ints = ((omega (arith, ints), omega (arith, ints)), tt);
    cells = (record { count = refl; few = lit≤ tt; small = (lit< tt, (lit< tt, (lit< tt, (lit< tt, tt)))) }, tt);
  };
  clean = clean_is (arrays_for shift four.ints) (core shift four.ints (memory_for shift four)) (refl, (refl, (refl, (refl, (refl, (refl, tt))))));
  few = lit< tt;
}
