-- A source with a choice, a scalar, casts of a signed and of a data expression, and a compound assignment.
use Rattle.std.specs.Prelude.{[], ◌∷◌, pos, Some, codes}
use Rattle.c_tree.specs.Plain.{Word, PlainExpr, lit, var, bin, cast, test, choice, assign, PlainStmt, int_param, PlainUnit}
use Rattle.c_tree.specs.Trees.{stmts_of}
use Rattle.c_tree.specs.Inputs.{PlainInputs}
use Rattle.c_tree.specs.declared.expr.Rel.TheVariants.{Lt, Ge, Ne}
use Rattle.c_tree.specs.declared.expr.BinOp.TheVariants.{Add, Sub, Mul}
use Rattle.examples.specs.Forms.{element, array_of, for_below, set, source, inputs}

abbrev pub n : Word
n = codes "n"

abbrev pub i : Word
i = codes "i"

abbrev pub s : Word
s = codes "s"

abbrev pub a : PlainExpr → PlainExpr
a at = element (codes "A") at

-- if (i >= 1 && i != 2) { s = s * 2; A[i] = (uint64_t)(i - 5) + s; } else { A[i] -= (uint64_t)(A[0] < s); }
abbrev pub the_choice : PlainStmt
the_choice = choice ((Ge, var i, lit 1) ∷ (Ne, var i, lit 2) ∷ [])
    (stmts_of (set (var s) (bin Mul (var s) (lit 2)) ∷ set (a (var i)) (bin Add (cast (bin Sub (var i) (lit 5))) (var s)) ∷ []))
    (stmts_of (assign (a (var i)) (Some Sub) (cast (test Lt (a (lit 0)) (var s))) ∷ []))

abbrev pub choices : PlainUnit
choices = record (source (codes "choices") (int_param n ∷ array_of (codes "A") (var n) ∷ []) (for_below i (var n) (the_choice ∷ []) ∷ []))
    { words = (s, 3) ∷ [] }

abbrev pub three_ones : PlainInputs
three_ones = inputs (pos 3 ∷ []) ((1 ∷ 1 ∷ 1 ∷ []) ∷ [])
