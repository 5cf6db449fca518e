-- A source that reads an array through two index arrays in one cell, and writes it. Constants stand as an extent and as a coordinate.
use Rattle.std.specs.Prelude.{true, false, [], ◌∷◌, Some, None, codes}
use Rattle.c_tree.specs.Plain.{PlainExpr, lit, cell, bin, more_exprs, assign, int_param, array_param, PlainUnit}
use Rattle.c_tree.specs.Trees.{stmts_of}
use Rattle.c_tree.specs.declared.expr.BinOp.TheVariants.{Add, Mul}
use Rattle.acceptance.specs.WorkedSources.{at, one, loop_to, n, i, array, line}

-- X[P[i]][Q[i]]
abbrev pub read_twice : PlainExpr
read_twice = cell (codes "X") (more_exprs (at (codes "P") i) (one (at (codes "Q") i)))

-- X[2 + 3][i]
abbrev pub last_row : PlainExpr
last_row = cell (codes "X") (more_exprs (bin Add (lit 2) (lit 3)) (one i))

-- for each i below n: X[2 + 3][i] += X[P[i]][Q[i]], where X has 2 * 3 rows of n cells
abbrev pub two_indices : PlainUnit
two_indices = record {
  version = None;
  ranges = line;
  name = codes "mix_rows";
  params = int_param (codes "n") ∷ array (codes "P") true n ∷ array (codes "Q") true n ∷ array_param (codes "X") false (more_exprs (bin Mul (lit 2) (lit 3)) (one n)) ∷ [];
  words = [];
  wides = [];
  body = stmts_of (loop_to (codes "i") n (assign last_row (Some Add) read_twice ∷ []) ∷ []);
}
