-- The inputs of the two sources are sound, and the sums are accepted.
use Rattle.std.proofs.Common.{refl, arith, lit<, lit≤, codes, false}
use Rattle.std.proofs.lemmas.Int.{ints}
use Rattle.c_tree.specs.Instances.{core}
use Rattle.c_tree.specs.Inputs.{arrays_for, memory_for, IsSound}
use Rattle.acceptance.specs.Trees.{IsNameIn, IsSourceTree}
use Rattle.run_laws.proofs.Within.{clean_is}
use Rattle.acceptance.specs.Sources.{IsAcceptedSource}
use Rattle.turned_texts.specs.Sources.{sums, one_to_three, fill, five, chase, round, pick, last_cell}

-- ---- the sums are accepted

name_n : IsNameIn false (codes "n")
name_n = record { word = refl; free = refl; short = omega arith }

name_a : IsNameIn false (codes "A")
name_a = record { word = refl; free = refl; short = omega arith }

name_i : IsNameIn false (codes "i")
name_i = record { word = refl; free = refl; short = omega arith }

sums_tree : IsSourceTree sums
sums_tree = record {
  version = refl;
  no_wides = refl;
  head = record {
    ranges = (record { name = name_n; low = (omega (arith, ints), omega (arith, ints)); high = (omega (arith, ints), omega (arith, ints)) }, tt);
    name = record { word = refl; free = refl; short = omega arith };
    some_param = λ e. (let f : ⊥ = cc in f);
    params = (name_n, (name_a, (name_n, tt), omega arith, tt));
    words = tt;
    wides = tt;
  };
  body = (
    (
      name_i,
      refl,
      omega arith,
      (name_n, omega arith),
      ((refl, refl, (name_a, ((name_i, omega arith), tt)), (((name_a, (name_i, tt)), (name_a, (name_i, tt))), (name_a, ((name_i, omega arith), tt)))), tt),
    ),
    tt,
  );
  low = record { stmts = omega arith; exprs = omega arith; extents = omega arith };
}

pub sums_accepted : IsAcceptedSource sums
sums_accepted = record { tree = sums_tree; refused_nowhere = refl }

-- ---- their inputs are sound

pub sums_sound : IsSound sums one_to_three
sums_sound = record {
  fit = record {
    ints = ((omega (arith, ints), omega (arith, ints)), tt);
    cells = (record { count = refl; few = lit≤ tt; small = (lit< tt, (lit< tt, (lit< tt, tt))) }, tt);
  };
  clean = clean_is (arrays_for sums one_to_three.ints) (core sums one_to_three.ints (memory_for sums one_to_three)) (refl, (refl, (refl, (refl, (refl, (refl, (refl, (refl, tt))))))));
  few = lit< tt;
}

pub fill_sound : IsSound fill five
fill_sound = record {
  fit = record {
    ints = tt;
    cells = (record { count = refl; few = lit≤ tt; small = (lit< tt, (lit< tt, tt)) }, (record { count = refl; few = lit≤ tt; small = (lit< tt, tt) }, tt));
  };
  clean = clean_is (arrays_for fill five.ints) (core fill five.ints (memory_for fill five)) (refl, (refl, (refl, (refl, tt))));
  few = lit< tt;
}

pub chase_sound : IsSound chase round
chase_sound = record {
  fit = record {
    ints = ((omega (arith, ints), omega (arith, ints)), tt);
    cells = (record { count = refl; few = lit≤ tt; small = (lit< tt, (lit< tt, (lit< tt, tt))) }, (record { count = refl; few = lit≤ tt; small = (lit< tt, (lit< tt, (lit< tt, tt))) }, tt));
  };
  clean = clean_is (arrays_for chase round.ints) (core chase round.ints (memory_for chase round)) (refl, (refl, (refl, (refl, (refl, (refl, (refl, (refl, (refl, tt)))))))));
  few = lit< tt;
}

pub pick_sound : IsSound pick last_cell
pick_sound = record {
  fit = record {
    ints = tt;
    cells = (
      record { count = refl; few = lit≤ tt; small = (lit< tt, tt) },
      (
        record { count = refl; few = lit≤ tt; small = (lit< tt, tt) },
        (record { count = refl; few = lit≤ tt; small = (lit< tt, (lit< tt, (lit< tt, (lit< tt, (lit< tt, (lit< tt, tt)))))) }, (record { count = refl; few = lit≤ tt; small = (lit< tt, tt) }, tt)),
      ),
    );
  };
  clean = clean_is (arrays_for pick last_cell.ints) (core pick last_cell.ints (memory_for pick last_cell)) (refl, (refl, (refl, (refl, tt))));
  few = lit< tt;
}
