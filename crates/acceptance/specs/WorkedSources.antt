-- Worked sources, accepted and refused.
use Rattle.std.specs.Prelude.{ℕ, zero, suc, ◌+◌, ◌^◌, Bool, true, false, List, [], ◌∷◌, ◌++◌, ℤ, pos, Some, None, codes}
use Rattle.c_tree.specs.Plain.{Word, PlainExpr, lit, var, cell, bin, cast, PlainExprs, no_exprs, more_exprs, PlainTest, PlainStmt, loop, choice, assign, no_stmts, PlainParam, int_param, array_param, PlainUnit}
use Rattle.c_tree.specs.Trees.{stmts_of}
use Rattle.c_tree.specs.declared.expr.Rel.TheVariants.{Lt}
use Rattle.c_tree.specs.declared.expr.BinOp.TheVariants.{Add, Sub, Mul, Div}

abbrev pub name : List ℕ → PlainExpr
name x = var x

abbrev pub at : Word → PlainExpr → PlainExpr
at x e = cell x (more_exprs e no_exprs)

abbrev pub one : PlainExpr → PlainExprs
one e = more_exprs e no_exprs

abbrev pub loop_to : Word → PlainExpr → List PlainStmt → PlainStmt
loop_to x hi ss = loop x (lit 0) Lt hi (stmts_of ss)

abbrev pub n : PlainExpr
n = var (codes "n")

abbrev pub i : PlainExpr
i = var (codes "i")

abbrev pub array : Word → Bool → PlainExpr → PlainParam
array x constant e = array_param x constant (one e)

abbrev pub shift_with : List (Word × ℤ × ℤ) → List PlainParam → List (Word × ℕ) → List PlainStmt → PlainUnit
shift_with ranges more words ss = record {
  version = None;
  ranges = ranges;
  name = codes "shift";
  params = int_param (codes "n") ∷ (array (codes "A") false n ∷ more);
  words = words;
  wides = [];
  body = stmts_of ss;
}

abbrev pub line : List (Word × ℤ × ℤ)
line = (codes "n", pos 1, pos 1000) ∷ []

-- the example with another assignment in its loop
abbrev pub shift_of : List PlainParam → List (Word × ℕ) → PlainStmt → PlainUnit
shift_of more words s = shift_with line more words (loop_to (codes "i") (bin Sub n (lit 1)) (s ∷ []) ∷ [])

abbrev pub set : PlainExpr → PlainExpr → PlainStmt
set t e = assign t None e

abbrev pub step : PlainStmt
step = set (at (codes "A") (bin Add i (lit 1))) (bin Add (at (codes "A") i) (lit 1))

abbrev pub shift : PlainUnit
shift = shift_of [] [] step

-- ---- refused sources

abbrev pub product_subscript : PlainUnit
product_subscript = shift_of [] [] (set (at (codes "A") (bin Mul i n)) (lit 1))

abbrev pub index : Bool → List PlainParam
index constant = array (codes "P") constant n ∷ []

abbrev pub scattered : PlainUnit
scattered = shift_of (index true) [] (set (at (codes "A") (at (codes "P") i)) (lit 1))

abbrev pub nested : ℕ → List PlainStmt → List PlainStmt
nested zero ss = ss
nested (suc k) ss = loop_to (codes "x" ++ (97 + k) ∷ []) (lit 2) (nested k ss) ∷ []

abbrev pub seven_loops : PlainUnit
seven_loops = shift_with line [] [] (nested 7 (set (at (codes "A") (lit 0)) (lit 1) ∷ []))

abbrev pub own_scalar : PlainUnit
own_scalar = shift_of [] ((codes "bal_x", 0) ∷ []) step

abbrev pub by_zero : PlainUnit
by_zero = shift_of [] [] (set (at (codes "A") i) (bin Div (at (codes "A") i) (lit 0)))

abbrev pub gathered : Bool → PlainUnit
gathered constant = shift_of (index constant) [] (set (at (codes "A") i) (at (codes "A") (at (codes "P") i)))

abbrev pub two_sizes : PlainUnit
two_sizes = shift_of (int_param (codes "n") ∷ []) [] step

abbrev pub unknown : PlainUnit
unknown = shift_of [] [] (set (at (codes "A") i) (var (codes "q")))

abbrev pub no_line : PlainUnit
no_line = shift_with [] [] [] (loop_to (codes "i") (bin Sub n (lit 1)) (step ∷ []) ∷ [])

abbrev pub large : PlainUnit
large = shift_with line [] [] (loop_to (codes "i") (bin Mul (lit 1048577) n) (step ∷ []) ∷ [])

abbrev pub empty_extent : PlainUnit
empty_extent = shift_of (array (codes "B") false (bin Add (bin Sub n n) (lit 1)) ∷ []) [] step

-- a product of matrices whose size has this name
abbrev pub product_of : Word → PlainUnit
product_of size =
    let m = var size in
    let two = λ (x y : PlainExpr). more_exprs x (one y) in
    let j = var (codes "j") in let k = var (codes "k") in record {
      version = None;
      ranges = (size, pos 1, pos 500) ∷ [];
      name = codes "mm";
      params = int_param size ∷ array_param (codes "A") true (two m m) ∷ array_param (codes "B") true (two m m) ∷ array_param (codes "C") false (two m m) ∷ [];
      words = [];
      wides = [];
      body = stmts_of (loop_to (codes "i") m (loop_to (codes "j") m (loop_to (codes "k") m
          (assign (cell (codes "C") (two i j)) (Some Add) (bin Mul (cell (codes "A") (two i k)) (cell (codes "B") (two k j))) ∷ []) ∷ []) ∷ []) ∷ []);
    }

-- a nest with two assignments
abbrev pub mix : PlainUnit
mix =
    let j = var (codes "j") in let two_n = bin Mul (lit 2) n in record {
      version = None;
      ranges = (codes "n", pos 1, pos 500) ∷ [];
      name = codes "mix";
      params = int_param (codes "n") ∷ array (codes "A") false two_n ∷ array (codes "B") true two_n ∷ array (codes "C") false n ∷ [];
      words = [];
      wides = [];
      body = stmts_of (loop_to (codes "i") n (loop_to (codes "j") n
          (set (at (codes "A") (bin Mul (lit 2) i)) (at (codes "B") (bin Add i j)) ∷ set (at (codes "C") i) (bin Add (at (codes "C") i) (lit 1)) ∷ []) ∷ []) ∷ []);
    }

-- a read through an index array
abbrev pub gather : PlainUnit
gather = record {
  version = None;
  ranges = (codes "n", pos 1, pos 1000) ∷ (codes "m", pos 1, pos 1000) ∷ [];
  name = codes "gather";
  params = int_param (codes "n") ∷ int_param (codes "m") ∷ array (codes "P") true n ∷ array (codes "X") true (var (codes "m")) ∷ array (codes "Y") false n ∷ [];
  words = [];
  wides = [];
  body = stmts_of (loop_to (codes "i") n (set (at (codes "Y") i) (at (codes "X") (at (codes "P") i)) ∷ []) ∷ []);
}

-- casts of a signed name within a cast, beside a scalar, and below a comparison of data
abbrev pub valued : PlainExpr → PlainUnit
valued e = shift_of [] ((codes "s", 0) ∷ []) (set (at (codes "A") i) e)

abbrev pub cast_in_cast : PlainUnit
cast_in_cast = valued (cast (bin Add (cast n) (lit 1)))

abbrev pub scalar_beside : PlainUnit
scalar_beside = valued (cast (bin Add (var (codes "s")) i))

abbrev pub bare_name : PlainUnit
bare_name = valued i

abbrev pub cast_name : PlainUnit
cast_name = valued (bin Add (cast (bin Add i (lit 1))) (var (codes "s")))

abbrev pub seventeen : PlainExpr
seventeen = reads 16
  where
    reads : ℕ → PlainExpr
    reads zero = at (codes "A") i
    reads (suc k) = bin Add (reads k) (at (codes "A") i)

abbrev pub many_reads : PlainUnit
many_reads = valued seventeen

-- ---- an elimination and a stencil

abbrev pub grid : PlainExpr → PlainExpr → PlainExpr
grid d e = cell (codes "A") (more_exprs d (one e))

abbrev pub loop_from : Word → PlainExpr → PlainExpr → List PlainStmt → PlainStmt
loop_from x lo hi ss = loop x lo Lt hi (stmts_of ss)

abbrev pub triangle : PlainUnit
triangle =
    let j = var (codes "j") in
    let k = var (codes "k") in record {
      version = None;
      ranges = (codes "n", pos 1, pos 500) ∷ [];
      name = codes "tri";
      params = int_param (codes "n") ∷ array_param (codes "A") false (more_exprs n (one n)) ∷ [];
      words = [];
      wides = [];
      body = stmts_of (loop_to (codes "k") (bin Sub n (lit 1)) (loop_from (codes "i") (bin Add k (lit 1)) n (loop_from (codes "j") (bin Add k (lit 1)) n
          (set (grid i j) (bin Sub (grid i j) (bin Mul (grid i k) (grid k j))) ∷ []) ∷ []) ∷ []) ∷ []);
    }

abbrev pub jacobi : PlainUnit
jacobi =
    let a = codes "A" in
    let b = codes "B" in record {
      version = None;
      ranges = (codes "t", pos 0, pos 1000) ∷ (codes "n", pos 2, pos 1000) ∷ [];
      name = codes "jac";
      params = int_param (codes "t") ∷ int_param (codes "n") ∷ array a false n ∷ array b false n ∷ [];
      words = [];
      wides = [];
      body = stmts_of (loop_to (codes "s") (var (codes "t"))
          (loop_from (codes "i") (lit 1) (bin Sub n (lit 1)) (set (at b i) (bin Add (at a (bin Sub i (lit 1))) (at a (bin Add i (lit 1)))) ∷ [])
          ∷ loop_from (codes "i") (lit 1) (bin Sub n (lit 1)) (set (at a i) (at b i) ∷ []) ∷ []) ∷ []);
    }

-- ---- at the limits

abbrev pub nest_of : ℕ → PlainUnit
nest_of k = shift_with line [] [] (nested k (set (at (codes "A") (lit 0)) (lit 1) ∷ []))

abbrev pub many_ints : ℕ → List PlainParam
many_ints zero = []
many_ints (suc k) = int_param (codes "p" ++ (97 + k) ∷ []) ∷ many_ints k

abbrev pub lines_for : ℕ → List (Word × ℤ × ℤ)
lines_for zero = line
lines_for (suc k) = (codes "p" ++ (97 + k) ∷ [], pos 0, pos (2 ^ 40)) ∷ lines_for k

-- so many `int64_t` parameters more, and a loop that goes up to a bound
abbrev pub bounded_by : ℕ → PlainExpr → PlainUnit
bounded_by k hi = shift_with (lines_for k) (many_ints k) [] (loop_to (codes "i") hi (step ∷ []) ∷ [])

abbrev pub large_term : ℕ → PlainExpr
large_term k = bin Mul (lit (2 ^ 20)) (var (codes "p" ++ (97 + k) ∷ []))

-- the sum of so many terms, each up to 2^60
abbrev pub wide_sum : ℕ → PlainExpr
wide_sum zero = large_term 0
wide_sum (suc k) = bin Add (wide_sum k) (large_term (suc k))

abbrev pub ranged : List (Word × ℤ × ℤ) → PlainUnit
ranged rs = shift_with rs [] [] (loop_to (codes "i") (bin Sub n (lit 1)) (step ∷ []) ∷ [])

abbrev pub sum_of_reads : ℕ → PlainExpr
sum_of_reads zero = at (codes "A") i
sum_of_reads (suc k) = bin Add (sum_of_reads k) (at (codes "A") i)

abbrev pub writes_to : PlainExpr → PlainUnit
writes_to t = shift_of (array (codes "P") true n ∷ []) ((codes "s", 0) ∷ []) (set t (lit 1))

abbrev pub added_to : PlainExpr → PlainExpr → PlainUnit
added_to t e = shift_of [] ((codes "s", 0) ∷ []) (assign t (Some Add) e)

abbrev pub tested : PlainTest → PlainUnit
tested t = shift_with line [] ((codes "s", 0) ∷ []) (loop_to (codes "i") n (choice (t ∷ []) (stmts_of (step ∷ [])) no_stmts ∷ []) ∷ [])
