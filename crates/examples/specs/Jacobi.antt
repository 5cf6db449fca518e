-- B[i] = A[i - 1] + A[i + 1] and then A[i] = B[i], for 1 <= i < n - 1, t times.
use Rattle.std.specs.Prelude.{[], ◌∷◌, pos, codes}
use Rattle.c_tree.specs.Plain.{Word, PlainExpr, lit, var, bin, PlainStmt, loop, int_param, PlainUnit}
use Rattle.c_tree.specs.Trees.{stmts_of}
use Rattle.c_tree.specs.Inputs.{PlainInputs}
use Rattle.c_tree.specs.declared.expr.Rel.TheVariants.{Lt}
use Rattle.c_tree.specs.declared.expr.BinOp.TheVariants.{Add, Sub}
use Rattle.examples.specs.Forms.{element, array_of, for_below, set, source, inputs}

abbrev pub n : Word
n = codes "n"

abbrev pub t : Word
t = codes "t"

abbrev pub i : Word
i = codes "i"

abbrev pub a : PlainExpr → PlainExpr
a at = element (codes "A") at

abbrev pub b : PlainExpr → PlainExpr
b at = element (codes "B") at

abbrev pub for_inner : PlainStmt → PlainStmt
for_inner s = loop i (lit 1) Lt (bin Sub (var n) (lit 1)) (stmts_of (s ∷ []))

abbrev pub jacobi : PlainUnit
jacobi = source (codes "jacobi") (int_param t ∷ int_param n ∷ array_of (codes "A") (var n) ∷ array_of (codes "B") (var n) ∷ []) (
    for_below (codes "s") (var t) (
    for_inner (set (b (var i)) (bin Add (a (bin Sub (var i) (lit 1))) (a (bin Add (var i) (lit 1))))) ∷
    for_inner (set (a (var i)) (b (var i))) ∷ []) ∷ [])

-- no turn of the inner loops
abbrev pub too_short : PlainInputs
too_short = inputs (pos 3 ∷ pos 2 ∷ []) ((4 ∷ 9 ∷ []) ∷ (0 ∷ 0 ∷ []) ∷ [])

abbrev pub two_times : PlainInputs
two_times = inputs (pos 2 ∷ pos 3 ∷ []) ((1 ∷ 0 ∷ 2 ∷ []) ∷ (0 ∷ 0 ∷ 0 ∷ []) ∷ [])
