-- Sources whose cells are read more than once, or by index arrays, and inputs of theirs.
use Rattle.std.specs.Prelude.{true, [], ◌∷◌, pos, codes}
use Rattle.c_tree.specs.Plain.{Word, PlainExpr, lit, var, bin, int_param, array_param, PlainUnit}
use Rattle.c_tree.specs.Trees.{exprs_of}
use Rattle.c_tree.specs.Inputs.{PlainInputs}
use Rattle.c_tree.specs.declared.expr.BinOp.TheVariants.{Add, Sub}
use Rattle.examples.specs.Chase.{chase as chasing}
use Rattle.examples.specs.Forms.{element, element_2, array_of, const_array_of, for_below, set, source, inputs}

abbrev pub n : Word
n = codes "n"

abbrev pub i : Word
i = codes "i"

abbrev pub a : PlainExpr → PlainExpr
a at = element (codes "A") at

abbrev pub next : PlainExpr
next = bin Add (var i) (lit 1)

-- A[i + 1] = A[i] + A[i] + A[i + 1] for i < n - 1
abbrev pub sums : PlainUnit
sums = record (source (codes "sums") (int_param n ∷ array_of (codes "A") (var n) ∷ [])
    (for_below i (bin Sub (var n) (lit 1)) (set (a next) (bin Add (bin Add (a (var i)) (a (var i))) (a next)) ∷ []) ∷ []))
    { ranges = (n, pos 1, pos 1000) ∷ [] }

-- n = 3 and A = 1 2 3. The accesses, with their values:
-- read A[0] 1 and 1, read A[1] 2, write A[1] 4, read A[1] 4 and 4, read A[2] 3, write A[2] 11
abbrev pub one_to_three : PlainInputs
one_to_three = inputs (pos 3 ∷ []) ((1 ∷ 2 ∷ 3 ∷ []) ∷ [])

-- A[i] = B[0] for i < 2
abbrev pub fill : PlainUnit
fill = source (codes "fill") (array_of (codes "A") (lit 2) ∷ const_array_of (codes "B") (lit 1) ∷ [])
    (for_below i (lit 2) (set (a (var i)) (element (codes "B") (lit 0)) ∷ []) ∷ [])

-- A = 0 0 and B = 5. The accesses, with their values: read B[0] 5, write A[0] 5, read B[0] 5, write A[1] 5
abbrev pub five : PlainInputs
five = inputs [] ((0 ∷ 0 ∷ []) ∷ (5 ∷ []) ∷ [])

-- X[i] = X[P[i]] + 1 for i < n
abbrev pub chase : PlainUnit
chase = record chasing { ranges = (n, pos 1, pos 1000) ∷ [] }

-- n = 3, P = 2 0 1 and X = 5 6 7. The accesses, with their values:
-- read P[0] 2, read X[2] 7, write X[0] 8, read P[1] 0, read X[0] 8, write X[1] 9, read P[2] 1, read X[1] 9, write X[2] 10
abbrev pub round : PlainInputs
round = inputs (pos 3 ∷ []) ((2 ∷ 0 ∷ 1 ∷ []) ∷ (5 ∷ 6 ∷ 7 ∷ []) ∷ [])

-- Y[0] = X[P[0]][Q[0]], with two rows of three cells
abbrev pub pick : PlainUnit
pick = source (codes "pick")
    (const_array_of (codes "P") (lit 1) ∷ const_array_of (codes "Q") (lit 1) ∷ array_param (codes "X") true (exprs_of (lit 2 ∷ lit 3 ∷ [])) ∷ array_of (codes "Y") (lit 1) ∷ [])
    (set (element (codes "Y") (lit 0)) (element_2 (codes "X") (element (codes "P") (lit 0)) (element (codes "Q") (lit 0))) ∷ [])

-- P = 1 and Q = 2, the last cell of X
abbrev pub last_cell : PlainInputs
last_cell = inputs [] ((1 ∷ []) ∷ (2 ∷ []) ∷ (1 ∷ 2 ∷ 3 ∷ 4 ∷ 5 ∷ 6 ∷ []) ∷ (0 ∷ []) ∷ [])
