-- A[i + 1] = A[i] + 1 for i < n - 1, as a source and as a printed text with formulas for the counts.
use Rattle.std.specs.Prelude.{ℕ, [], ◌∷◌, pos, codes}
use Rattle.c_tree.specs.Plain.{Word, PlainExpr, lit, var, bin, big, begin, verdict, int_param, PlainUnit}
use Rattle.c_tree.specs.Accesses.{Definition, uses}
use Rattle.c_tree.specs.Instances.{accesses}
use Rattle.c_tree.specs.Inputs.{PlainInputs, memory_for}
use Rattle.c_tree.specs.declared.expr.Rel.TheVariants.{Le}
use Rattle.c_tree.specs.declared.expr.BinOp.TheVariants.{Add, Sub}
use Rattle.examples.specs.Forms.{element, array_of, for_below, set, add, if_all, source, printed, r0, w, k, i0, def0, use0, count_is, add_counted, add_word, inputs}

abbrev pub n : Word
n = codes "n"

abbrev pub i : Word
i = codes "i"

abbrev pub a : PlainExpr → PlainExpr
a at = element (codes "A") at

abbrev pub shift_below : PlainExpr → PlainUnit
shift_below hi = record (source (codes "shift") (int_param n ∷ array_of (codes "A") (var n) ∷ [])
    (for_below i hi (set (a (bin Add (var i) (lit 1))) (bin Add (a (var i)) (lit 1)) ∷ []) ∷ []))
    { ranges = (n, pos 1, pos 1000) ∷ [] }

abbrev pub shift : PlainUnit
shift = shift_below (bin Sub (var n) (lit 1))

-- with one turn too many
abbrev pub shift_too_far : PlainUnit
shift_too_far = shift_below (var n)

abbrev pub four : PlainInputs
four = inputs (pos 4 ∷ []) ((5 ∷ 0 ∷ 0 ∷ 0 ∷ []) ∷ [])

abbrev pub one : PlainInputs
one = inputs (pos 1 ∷ []) ((5 ∷ []) ∷ [])

-- A[0] is read once where 2 <= n, each other initial cell never; the write of a turn is read once but in the last turn
abbrev pub printed_shift : PlainUnit
printed_shift = printed (codes "bal_fn_shift") (int_param n ∷ array_of (codes "A") (var n) ∷ []) (r0 ∷ w ∷ []) (k ∷ def0 ∷ use0 ∷ []) (
    for_below i0 (var n) (
    set (var r0) (a (var i0)) ∷
    count_is 0 ∷
    if_all ((Le, var i0, lit 0) ∷ (Le, lit 2, var n) ∷ []) (add k (big 0 1) ∷ []) ∷
    add_counted def0 r0 ∷ [])
    ∷ begin
    ∷ for_below i (bin Sub (var n) (lit 1)) (
    set (var r0) (a (var i)) ∷
    add_word use0 r0 ∷
    set (var w) (bin Add (var r0) (lit 1)) ∷
    set (a (bin Add (var i) (lit 1))) (var w) ∷
    count_is 0 ∷
    if_all ((Le, var i, bin Sub (var n) (lit 3)) ∷ []) (add k (big 0 1) ∷ []) ∷
    add_counted def0 w ∷ [])
    ∷ verdict ∷ [])

abbrev pub uses_of : Definition → ℕ
uses_of d = uses (accesses shift (pos 4 ∷ []) (memory_for shift four)) d
