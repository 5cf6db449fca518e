-- B[i] = A[0] for i < 2, as a printed text: the initial value of A[0] is read twice.
use Rattle.std.specs.Prelude.{[], ◌∷◌, codes}
use Rattle.c_tree.specs.Plain.{PlainExpr, lit, var, big, begin, verdict, PlainUnit}
use Rattle.c_tree.specs.Inputs.{PlainInputs}
use Rattle.c_tree.specs.declared.expr.Rel.TheVariants.{Le}
use Rattle.examples.specs.Forms.{element, array_of, const_array_of, for_below, set, add, if_all, printed, r0, w, k, i0, def0, use0, def1, use1, count_is, add_counted, add_word, inputs}

abbrev pub a : PlainExpr → PlainExpr
a at = element (codes "A") at

abbrev pub b : PlainExpr → PlainExpr
b at = element (codes "B") at

abbrev pub printed_broadcast : PlainUnit
printed_broadcast = printed (codes "bal_fn_broadcast") (const_array_of (codes "A") (lit 1) ∷ array_of (codes "B") (lit 2) ∷ []) (r0 ∷ w ∷ []) (k ∷ def0 ∷ use0 ∷ def1 ∷ use1 ∷ []) (
    for_below i0 (lit 1) (
    set (var r0) (a (var i0)) ∷
    count_is 0 ∷
    if_all ((Le, var i0, lit 0) ∷ []) (add k (big 0 2) ∷ []) ∷
    add_counted def0 r0 ∷ [])
    ∷ for_below i0 (lit 2) (
    set (var r0) (b (var i0)) ∷
    count_is 0 ∷
    add_counted def1 r0 ∷ [])
    ∷ begin
    ∷ for_below (codes "i") (lit 2) (
    set (var r0) (a (lit 0)) ∷
    add_word use0 r0 ∷
    set (var w) (var r0) ∷
    set (b (var (codes "i"))) (var w) ∷
    count_is 0 ∷
    add_counted def1 w ∷ [])
    ∷ verdict ∷ [])

abbrev pub one_word : PlainInputs
one_word = inputs [] ((1 ∷ []) ∷ (0 ∷ 0 ∷ []) ∷ [])
