-- A[2 * i] = B[i + j] and C[i] = C[i] + 1 for i, j < n: cells of B are read by several pairs.
use Rattle.std.specs.Prelude.{ℕ, [], ◌∷◌, pos, codes}
use Rattle.c_tree.specs.Plain.{Word, PlainExpr, lit, var, bin, int_param, PlainUnit}
use Rattle.c_tree.specs.Accesses.{uses}
use Rattle.c_tree.specs.Accesses.Definition.{Initial}
use Rattle.c_tree.specs.Instances.{accesses}
use Rattle.c_tree.specs.Inputs.{PlainInputs, memory_for}
use Rattle.c_tree.specs.declared.expr.BinOp.TheVariants.{Add, Mul}
use Rattle.examples.specs.Forms.{element, array_of, const_array_of, for_below, set, source, inputs}

abbrev pub n : Word
n = codes "n"

abbrev pub i : Word
i = codes "i"

abbrev pub j : Word
j = codes "j"

abbrev pub c : PlainExpr
c = element (codes "C") (var i)

abbrev pub twice_n : PlainExpr
twice_n = bin Mul (lit 2) (var n)

abbrev pub overlap : PlainUnit
overlap = source (codes "overlap") (int_param n ∷ array_of (codes "A") twice_n ∷ const_array_of (codes "B") twice_n ∷ array_of (codes "C") (var n) ∷ []) (
    for_below i (var n) (for_below j (var n) (
    set (element (codes "A") (bin Mul (lit 2) (var i))) (element (codes "B") (bin Add (var i) (var j))) ∷
    set c (bin Add c (lit 1)) ∷ []) ∷ []) ∷ [])

abbrev pub two : PlainInputs
two = inputs (pos 2 ∷ []) ((0 ∷ 0 ∷ 0 ∷ 0 ∷ []) ∷ (1 ∷ 2 ∷ 3 ∷ 4 ∷ []) ∷ (0 ∷ 0 ∷ []) ∷ [])

-- the uses of an initial cell of B
abbrev pub uses_of_initial : ℕ → ℕ
uses_of_initial cell_number = uses (accesses overlap (pos 2 ∷ []) (memory_for overlap two)) (Initial 1 (pos cell_number ∷ []))
