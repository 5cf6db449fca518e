-- Three sources that are accepted: a nest without irregular subscripts, a read through an index array, and one through two of them.
use Rattle.std.proofs.Common.{refl, arith, codes, false}
use Rattle.std.proofs.lemmas.Int.{ints}
use Rattle.acceptance.specs.Trees.{IsNameIn, IsSourceTree}
use Rattle.acceptance.specs.WorkedSources.{gather, mix}
use Rattle.acceptance.specs.Sources.{IsAcceptedSource}
use Rattle.source_laws.specs.Laws.{IsRegularSource}
use Rattle.source_laws.specs.Worked.{two_indices}

name_n : IsNameIn false (codes "n")
name_n = record { word = refl; free = refl; short = omega arith }

name_a : IsNameIn false (codes "A")
name_a = record { word = refl; free = refl; short = omega arith }

name_b : IsNameIn false (codes "B")
name_b = record { word = refl; free = refl; short = omega arith }

name_c : IsNameIn false (codes "C")
name_c = record { word = refl; free = refl; short = omega arith }

name_i : IsNameIn false (codes "i")
name_i = record { word = refl; free = refl; short = omega arith }

name_j : IsNameIn false (codes "j")
name_j = record { word = refl; free = refl; short = omega arith }

name_m : IsNameIn false (codes "m")
name_m = record { word = refl; free = refl; short = omega arith }

name_p : IsNameIn false (codes "P")
name_p = record { word = refl; free = refl; short = omega arith }

name_x : IsNameIn false (codes "X")
name_x = record { word = refl; free = refl; short = omega arith }

name_y : IsNameIn false (codes "Y")
name_y = record { word = refl; free = refl; short = omega arith }

name_q : IsNameIn false (codes "Q")
name_q = record { word = refl; free = refl; short = omega arith }

nest_tree : IsSourceTree mix
nest_tree = record {
  version = refl;
  no_wides = refl;
  head = record {
    ranges = (record { name = name_n; low = (omega (arith, ints), omega (arith, ints)); high = (omega (arith, ints), omega (arith, ints)) }, tt);
    name = record { word = refl; free = refl; short = omega arith };
    some_param = λ e. (let f : ⊥ = cc in f);
    params = (
      name_n,
      (name_a, ((omega arith, name_n), tt), omega arith, (name_b, ((omega arith, name_n), tt), omega arith, (name_c, (name_n, tt), omega arith, tt))),
    );
    words = tt;
    wides = tt;
  };
  body = (
    (
      name_i,
      refl,
      omega arith,
      name_n,
      (
        (
          name_j,
          refl,
          omega arith,
          name_n,
          (
            (refl, refl, (name_a, ((omega arith, name_i), tt)), (name_b, ((name_i, name_j), tt))),
            ((refl, refl, (name_c, (name_i, tt)), ((name_c, (name_i, tt)), omega arith)), tt),
          ),
        ),
        tt,
      ),
    ),
    tt,
  );
  low = record { stmts = omega arith; exprs = omega arith; extents = omega arith };
}

pub mix_accepted : IsRegularSource mix
mix_accepted = record { accepted = record { tree = nest_tree; refused_nowhere = refl }; regular = refl }

gather_tree : IsSourceTree gather
gather_tree = record {
  version = refl;
  no_wides = refl;
  head = record {
    ranges = (
      record { name = name_n; low = (omega (arith, ints), omega (arith, ints)); high = (omega (arith, ints), omega (arith, ints)) },
      (record { name = name_m; low = (omega (arith, ints), omega (arith, ints)); high = (omega (arith, ints), omega (arith, ints)) }, tt),
    );
    name = record { word = refl; free = refl; short = omega arith };
    some_param = λ e. (let f : ⊥ = cc in f);
    params = (name_n, (name_m, (name_p, (name_n, tt), omega arith, (name_x, (name_m, tt), omega arith, (name_y, (name_n, tt), omega arith, tt)))));
    words = tt;
    wides = tt;
  };
  body = ((name_i, refl, omega arith, name_n, ((refl, refl, (name_y, (name_i, tt)), (name_x, ((name_p, (name_i, tt)), tt))), tt)), tt);
  low = record { stmts = omega arith; exprs = omega arith; extents = omega arith };
}

pub gather_accepted : IsAcceptedSource gather
gather_accepted = record { tree = gather_tree; refused_nowhere = refl }

two_tree : IsSourceTree two_indices
two_tree = record {
  version = refl;
  no_wides = refl;
  head = record {
    ranges = (record { name = name_n; low = (omega (arith, ints), omega (arith, ints)); high = (omega (arith, ints), omega (arith, ints)) }, tt);
    name = record { word = refl; free = refl; short = omega arith };
    some_param = λ e. (let f : ⊥ = cc in f);
    params = (name_n, (name_p, (name_n, tt), omega arith, (name_q, (name_n, tt), omega arith, (name_x, ((omega arith, omega arith), (name_n, tt)), omega arith, tt))));
    words = tt;
    wides = tt;
  };
  body = ((name_i, refl, omega arith, name_n, ((refl, refl, (name_x, ((omega arith, omega arith), (name_i, tt))), (name_x, ((name_p, (name_i, tt)), ((name_q, (name_i, tt)), tt)))), tt)), tt);
  low = record { stmts = omega arith; exprs = omega arith; extents = omega arith };
}

pub two_accepted : IsAcceptedSource two_indices
two_accepted = record { tree = two_tree; refused_nowhere = refl }
