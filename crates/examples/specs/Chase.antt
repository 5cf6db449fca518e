-- X[i] = X[P[i]] + 1 for i < n: an array that is read by an index array, and written.
use Rattle.std.specs.Prelude.{[], ◌∷◌, pos, codes}
use Rattle.c_tree.specs.Plain.{PlainExpr, lit, var, bin, int_param, PlainUnit}
use Rattle.c_tree.specs.Inputs.{PlainInputs}
use Rattle.c_tree.specs.declared.expr.BinOp.TheVariants.{Add}
use Rattle.examples.specs.Forms.{element, array_of, const_array_of, for_below, set, source, inputs}

abbrev pub x : PlainExpr → PlainExpr
x at = element (codes "X") at

abbrev pub chase : PlainUnit
chase = source (codes "chase") (int_param (codes "n") ∷ const_array_of (codes "P") (var (codes "n")) ∷ array_of (codes "X") (var (codes "n")) ∷ [])
    (for_below (codes "i") (var (codes "n")) (set (x (var (codes "i"))) (bin Add (x (element (codes "P") (var (codes "i")))) (lit 1)) ∷ []) ∷ [])

-- n = 3, P = 2 0 1, X = 5 6 7
abbrev pub round : PlainInputs
round = inputs (pos 3 ∷ []) ((2 ∷ 0 ∷ 1 ∷ []) ∷ (5 ∷ 6 ∷ 7 ∷ []) ∷ [])
