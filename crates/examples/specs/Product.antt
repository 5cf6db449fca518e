-- C[i][j] += A[i][k] * B[k][j], a product of matrices.
use Rattle.std.specs.Prelude.{ℕ, true, false, List, [], ◌∷◌, pos, Some, codes}
use Rattle.c_tree.specs.Plain.{Word, PlainExprs, var, bin, assign, PlainStmt, int_param, array_param, PlainUnit}
use Rattle.c_tree.specs.Trees.{exprs_of}
use Rattle.c_tree.specs.Inputs.{PlainInputs}
use Rattle.c_tree.specs.declared.expr.BinOp.TheVariants.{Add, Mul}
use Rattle.examples.specs.Forms.{element_2, for_below, source, inputs}

abbrev pub n : Word
n = codes "n"

abbrev pub i : Word
i = codes "i"

abbrev pub j : Word
j = codes "j"

abbrev pub k : Word
k = codes "k"

abbrev pub square : PlainExprs
square = exprs_of (var n ∷ var n ∷ [])

abbrev pub update : PlainStmt
update = assign (element_2 (codes "C") (var i) (var j)) (Some Add) (bin Mul (element_2 (codes "A") (var i) (var k)) (element_2 (codes "B") (var k) (var j)))

abbrev pub product : PlainUnit
product = source (codes "mm") (int_param n ∷ array_param (codes "A") true square ∷ array_param (codes "B") true square ∷ array_param (codes "C") false square ∷ []) (
    for_below i (var n) (for_below j (var n) (for_below k (var n) (update ∷ []) ∷ []) ∷ []) ∷ [])

abbrev pub one_to_nine : List ℕ
one_to_nine = 1 ∷ 2 ∷ 3 ∷ 4 ∷ 5 ∷ 6 ∷ 7 ∷ 8 ∷ 9 ∷ []

abbrev pub identity : List ℕ
identity = 1 ∷ 0 ∷ 0 ∷ 0 ∷ 1 ∷ 0 ∷ 0 ∷ 0 ∷ 1 ∷ []

abbrev pub three : PlainInputs
three = inputs (pos 3 ∷ []) (one_to_nine ∷ identity ∷ (0 ∷ 0 ∷ 0 ∷ 0 ∷ 0 ∷ 0 ∷ 0 ∷ 0 ∷ 0 ∷ []) ∷ [])
