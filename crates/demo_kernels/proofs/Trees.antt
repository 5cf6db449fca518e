-- The four units are trees of the grammar: each fact is computed.
use Rattle.std.proofs.Common.{refl, arith, codes, false}
use Rattle.std.proofs.lemmas.Int.{ints}
use Rattle.acceptance.specs.Trees.{IsNameIn, IsSourceTree}
use Rattle.acceptance.specs.WorkedSources.{shift, product_of, jacobi, gather}
use Rattle.c_tree.specs.Plain.{Word}

abbrev Named : Word → Type 0
Named = IsNameIn false

name_n : Named (codes "n")
name_n = record { word = refl; free = refl; short = omega arith }

name_m : Named (codes "m")
name_m = record { word = refl; free = refl; short = omega arith }

name_t : Named (codes "t")
name_t = record { word = refl; free = refl; short = omega arith }

name_a : Named (codes "A")
name_a = record { word = refl; free = refl; short = omega arith }

name_b : Named (codes "B")
name_b = record { word = refl; free = refl; short = omega arith }

name_c : Named (codes "C")
name_c = record { word = refl; free = refl; short = omega arith }

name_p : Named (codes "P")
name_p = record { word = refl; free = refl; short = omega arith }

name_x : Named (codes "X")
name_x = record { word = refl; free = refl; short = omega arith }

name_y : Named (codes "Y")
name_y = record { word = refl; free = refl; short = omega arith }

name_i : Named (codes "i")
name_i = record { word = refl; free = refl; short = omega arith }

name_j : Named (codes "j")
name_j = record { word = refl; free = refl; short = omega arith }

name_k : Named (codes "k")
name_k = record { word = refl; free = refl; short = omega arith }

name_s : Named (codes "s")
name_s = record { word = refl; free = refl; short = omega arith }

pub shift_tree : IsSourceTree shift
shift_tree = record {
  version = refl;
  no_wides = refl;
  head = record {
    ranges = (record { name = name_n; low = (omega (arith, ints), omega (arith, ints)); high = (omega (arith, ints), omega (arith, ints)) }, tt);
    name = record { word = refl; free = refl; short = omega arith };
    some_param = λ e. (let f : ⊥ = cc in f);
    params = (name_n, (name_a, (name_n, tt), omega arith, tt));
    words = tt;
    wides = tt;
  };
  body = (
    (
      name_i,
      refl,
      omega arith,
      (name_n, omega arith),
      ((refl, refl, (name_a, ((name_i, omega arith), tt)), ((name_a, (name_i, tt)), omega arith)), tt),
    ),
    tt,
  );
  low = record { stmts = omega arith; exprs = omega arith; extents = omega arith };
}

pub product_tree : IsSourceTree (product_of (codes "n"))
product_tree = record {
  version = refl;
  no_wides = refl;
  head = record {
    ranges = (record { name = name_n; low = (omega (arith, ints), omega (arith, ints)); high = (omega (arith, ints), omega (arith, ints)) }, tt);
    name = record { word = refl; free = refl; short = omega arith };
    some_param = λ e. (let f : ⊥ = cc in f);
    params = (name_n, (name_a, (name_n, (name_n, tt)), omega arith, (name_b, (name_n, (name_n, tt)), omega arith, (name_c, (name_n, (name_n, tt)), omega arith, tt))));
    words = tt;
    wides = tt;
  };
  body = (
    (
      name_i,
      refl,
      omega arith,
      name_n,
      (
        (
          name_j,
          refl,
          omega arith,
          name_n,
          (
            (
              name_k,
              refl,
              omega arith,
              name_n,
              (
                (refl, refl, (name_c, (name_i, (name_j, tt))), ((name_a, (name_i, (name_k, tt))), (name_b, (name_k, (name_j, tt))))),
                tt,
              ),
            ),
            tt,
          ),
        ),
        tt,
      ),
    ),
    tt,
  );
  low = record { stmts = omega arith; exprs = omega arith; extents = omega arith };
}

pub jacobi_tree : IsSourceTree jacobi
jacobi_tree = record {
  version = refl;
  no_wides = refl;
  head = record {
    ranges = (
      record { name = name_t; low = (omega (arith, ints), omega (arith, ints)); high = (omega (arith, ints), omega (arith, ints)) },
      (record { name = name_n; low = (omega (arith, ints), omega (arith, ints)); high = (omega (arith, ints), omega (arith, ints)) }, tt),
    );
    name = record { word = refl; free = refl; short = omega arith };
    some_param = λ e. (let f : ⊥ = cc in f);
    params = (name_t, (name_n, (name_a, (name_n, tt), omega arith, (name_b, (name_n, tt), omega arith, tt))));
    words = tt;
    wides = tt;
  };
  body = (
    (
      name_s,
      refl,
      omega arith,
      name_t,
      (
        (
          name_i,
          refl,
          omega arith,
          (name_n, omega arith),
          (
            (
              refl,
              refl,
              (name_b, (name_i, tt)),
              ((name_a, ((name_i, omega arith), tt)), (name_a, ((name_i, omega arith), tt))),
            ),
            tt,
          ),
        ),
        (
          (
            name_i,
            refl,
            omega arith,
            (name_n, omega arith),
            ((refl, refl, (name_a, (name_i, tt)), (name_b, (name_i, tt))), tt),
          ),
          tt,
        ),
      ),
    ),
    tt,
  );
  low = record { stmts = omega arith; exprs = omega arith; extents = omega arith };
}

pub gather_tree : IsSourceTree gather
gather_tree = record {
  version = refl;
  no_wides = refl;
  head = record {
    ranges = (
      record { name = name_n; low = (omega (arith, ints), omega (arith, ints)); high = (omega (arith, ints), omega (arith, ints)) },
      (record { name = name_m; low = (omega (arith, ints), omega (arith, ints)); high = (omega (arith, ints), omega (arith, ints)) }, tt),
    );
    name = record { word = refl; free = refl; short = omega arith };
    some_param = λ e. (let f : ⊥ = cc in f);
    params = (name_n, (name_m, (name_p, (name_n, tt), omega arith, (name_x, (name_m, tt), omega arith, (name_y, (name_n, tt), omega arith, tt)))));
    words = tt;
    wides = tt;
  };
  body = (
    (
      name_i,
      refl,
      omega arith,
      name_n,
      ((refl, refl, (name_y, (name_i, tt)), (name_x, ((name_p, (name_i, tt)), tt))), tt),
    ),
    tt,
  );
  low = record { stmts = omega arith; exprs = omega arith; extents = omega arith };
}
