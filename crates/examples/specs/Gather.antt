-- Y[i] = X[P[i]] for i < n: an irregular read, as a source and as a printed text with a check of the index and a table
-- of the counts.
use Rattle.std.specs.Prelude.{ℕ, List, [], ◌∷◌, pos, codes}
use Rattle.c_tree.specs.Plain.{Word, PlainExpr, lit, var, cast, widen, begin, check, table, verdict, PlainStmt, int_param, PlainUnit}
use Rattle.c_tree.specs.Accesses.{uses}
use Rattle.c_tree.specs.Accesses.Definition.{Initial}
use Rattle.c_tree.specs.Instances.{accesses}
use Rattle.c_tree.specs.Inputs.{PlainInputs, memory_for}
use Rattle.c_tree.specs.Plain.{assign}
use Rattle.c_tree.specs.declared.expr.BinOp.TheVariants.{Add}
use Rattle.std.specs.Prelude.{Some}
use Rattle.examples.specs.Forms.{element, array_of, const_array_of, for_below, set, source, printed, r0, r1, w, k, i0, def0, use0, def1, use1, def2, use2, count_is, add_counted, add_word, inputs}

abbrev pub n : Word
n = codes "n"

abbrev pub m : Word
m = codes "m"

abbrev pub i : Word
i = codes "i"

abbrev pub counts : Word
counts = codes "bal_t1"

abbrev pub p : PlainExpr → PlainExpr
p at = element (codes "P") at

abbrev pub x : PlainExpr → PlainExpr
x at = element (codes "X") at

abbrev pub y : PlainExpr → PlainExpr
y at = element (codes "Y") at

abbrev pub gather : PlainUnit
gather = source (codes "gather") (int_param n ∷ int_param m ∷ const_array_of (codes "P") (var n) ∷ const_array_of (codes "X") (var m) ∷ array_of (codes "Y") (var n) ∷ [])
    (for_below i (var n) (set (y (var i)) (x (p (var i))) ∷ []) ∷ [])

-- n = 2 and m = 2, P and X as given, Y = 0 0
abbrev pub two_by : List ℕ → List ℕ → PlainInputs
two_by ps xs = inputs (pos 2 ∷ pos 2 ∷ []) (ps ∷ xs ∷ (0 ∷ 0 ∷ []) ∷ [])

-- both turns read X[1]
abbrev pub same_cell_twice : PlainInputs
same_cell_twice = two_by (1 ∷ 1 ∷ []) (10 ∷ 20 ∷ [])

-- the second index lies outside X
abbrev pub outside_x : PlainInputs
outside_x = two_by (1 ∷ 5 ∷ []) (10 ∷ 20 ∷ [])

abbrev pub equal_words : PlainInputs
equal_words = two_by (1 ∷ 1 ∷ []) (20 ∷ 20 ∷ [])

-- n = 3 and m = 2: X[0] is read twice, X[1] once
abbrev pub three_reads : PlainInputs
three_reads = inputs (pos 3 ∷ pos 2 ∷ []) ((0 ∷ 1 ∷ 0 ∷ []) ∷ (7 ∷ 9 ∷ []) ∷ (0 ∷ 0 ∷ 0 ∷ []) ∷ [])

-- the uses of an initial cell of X
abbrev pub uses_of_initial : ℕ → ℕ
uses_of_initial cell_number = uses (accesses gather (pos 2 ∷ pos 2 ∷ []) (memory_for gather same_cell_twice)) (Initial 1 (pos cell_number ∷ []))

-- before an access of X by the word r0
abbrev pub check_index : PlainStmt
check_index = check r0 (var m) 1

-- the read of X in the instrumented text: the index, its check, and the cell
abbrev pub read_of_x : List PlainStmt
read_of_x =
    set (var r0) (p (var i)) ∷
    add_word use0 r0 ∷
    check_index ∷
    set (var r1) (x (var r0)) ∷
    add_word use1 r1 ∷ []

abbrev pub printed_gather : PlainUnit
printed_gather = printed (codes "bal_fn_gather") gather.params (r0 ∷ r1 ∷ w ∷ []) (k ∷ def0 ∷ use0 ∷ def1 ∷ use1 ∷ def2 ∷ use2 ∷ []) (
    table counts (cast (var m))
    ∷ for_below i (var n) (
    set (var r0) (p (var i)) ∷
    check_index ∷
    assign (element counts (var r0)) (Some Add) (lit 1) ∷ [])
    ∷ for_below i0 (var n) (
    set (var r0) (p (var i0)) ∷
    count_is 1 ∷
    add_counted def0 r0 ∷ [])
    ∷ for_below i0 (var m) (
    set (var r0) (x (var i0)) ∷
    set (var k) (widen (element counts (cast (var i0)))) ∷
    add_counted def1 r0 ∷ [])
    ∷ for_below i0 (var n) (
    set (var r0) (y (var i0)) ∷
    count_is 0 ∷
    add_counted def2 r0 ∷ [])
    ∷ begin
    ∷ for_below i (var n) (
    set (var r0) (p (var i)) ∷
    add_word use0 r0 ∷
    check_index ∷
    set (var r1) (x (var r0)) ∷
    add_word use1 r1 ∷
    set (var w) (var r1) ∷
    set (y (var i)) (var w) ∷
    count_is 0 ∷
    add_counted def2 w ∷ [])
    ∷ verdict ∷ [])
