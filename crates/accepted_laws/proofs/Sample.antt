-- The sample is of the grammar, no refusal names it, and so it is suited: each fact is computed.
use Rattle.std.proofs.Common.{◌≡◌, None, refl, arith, codes, false}
use Rattle.std.proofs.lemmas.Int.{ints}
use Rattle.c_tree.specs.Plain.{Word}
use Rattle.instrumentation.specs.Guarded.{guarded}
use Rattle.acceptance.specs.Printed.{IsAcceptedPrinted}
use Rattle.acceptance.specs.Sources.{refusal}
use Rattle.acceptance.specs.Trees.{IsNameIn, IsSourceTree, IsPrintedTree}
use Rattle.accepted_laws.specs.Suited.{IsSuited}
use Rattle.accepted_laws.specs.Sample.{source}
use Rattle.accepted_laws.proofs.Suited.{suited_accepted}
use Rattle.accepted_laws.proofs.TextTrees.{suited_tree}
use Rattle.accepted_laws.proofs.Accepted.{accepted_suited}

pub unrefused : refusal source ≡ None
unrefused = refl

abbrev Named : Word → Type 0
Named = IsNameIn false

name_n : Named (codes "n")
name_n = record { word = refl; free = refl; short = omega arith }

name_m : Named (codes "m")
name_m = record { word = refl; free = refl; short = omega arith }

name_a : Named (codes "A")
name_a = record { word = refl; free = refl; short = omega arith }

name_b : Named (codes "B")
name_b = record { word = refl; free = refl; short = omega arith }

name_s : Named (codes "s")
name_s = record { word = refl; free = refl; short = omega arith }

name_i : Named (codes "i")
name_i = record { word = refl; free = refl; short = omega arith }

name_j : Named (codes "j")
name_j = record { word = refl; free = refl; short = omega arith }

pub tree : IsSourceTree source
tree = record {
  version = refl;
  no_wides = refl;
  head = record {
    ranges = (record { name = name_n; low = (omega (arith, ints), omega (arith, ints)); high = (omega (arith, ints), omega (arith, ints)) }, (record { name = name_m; low = (omega (arith, ints), omega (arith, ints)); high = (omega (arith, ints), omega (arith, ints)) }, tt));
    name = record { word = refl; free = refl; short = omega arith };
    some_param = λ e. (let f : ⊥ = cc in f);
    params = (name_n, (name_m, (name_a, (name_n, ((name_m, omega arith), tt)), omega arith, (name_b, ((omega arith, name_n), tt), omega arith, tt))));
    words = (name_s, omega arith, tt);
    wides = tt;
  };
  body = (
    (
      name_i,
      refl,
      omega arith,
      name_n,
      (
        (
          name_j,
          refl,
          name_i,
          name_m,
          (
            (
              ((name_i, name_j), (((name_j, omega arith), name_n), tt)),
              ((refl, refl, (name_a, (name_i, (name_j, tt))), (((name_b, ((omega arith, name_i), tt)), name_s), (name_i, omega arith))), tt),
              ((refl, refl, name_s, (((name_a, (name_i, (omega arith, tt))), (name_b, (name_i, tt))), ((name_b, ((name_n, omega arith), tt)), omega arith))), tt),
            ),
            tt,
          ),
        ),
        ((refl, refl, name_s, ((name_s, (name_a, (name_i, (name_i, tt)))), omega arith)), tt),
      ),
    ),
    tt,
  );
  low = record { stmts = omega arith; exprs = omega arith; extents = omega arith };
}

pub suited : IsSuited source
suited = accepted_suited source (record { tree = tree; refused_nowhere = unrefused })

pub sample_accepted : IsAcceptedPrinted (guarded source)
sample_accepted = suited_accepted source suited tree

pub sample_printed : IsPrintedTree (guarded source)
sample_printed = suited_tree source suited tree
