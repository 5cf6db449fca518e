-- The text of one loop, computed: with formulas for its counts, and with counting passes.
use Rattle.std.proofs.Common.{◌≡◌, ℕ, List, [], ◌∷◌, ◌++◌, pos, refl, codes, false, Option, Some, None, length}
use Rattle.std.specs.Int.{int_wrap}
use Rattle.std.specs.Fmt.{digits}
use Rattle.c_tree.specs.Plain.{Word, PlainExpr, lit, var, cell, bin, big, PlainExprs, no_exprs, more_exprs, PlainStmt, loop, choice, assign, begin, verdict, PlainStmts, no_stmts, more_stmts, int_param, array_param, PlainUnit}
use Rattle.c_tree.specs.Trees.{stmts_of}
use Rattle.c_tree.specs.Fault.{Fault, disturbed}
use Rattle.c_tree.specs.Inputs.{PlainInputs}
use Rattle.c_tree.specs.Run.{run, balanced, fault, outside}
use Rattle.c_tree.specs.declared.expr.Rel.TheVariants.{Lt, Le}
use Rattle.c_tree.specs.declared.expr.BinOp.TheVariants.{Add, Sub}
use Rattle.instrumentation.specs.Names.{register, result, count, definition_total, use_total, coordinate, pass_variable, active, counter, function_name, number_in}
use Rattle.instrumentation.specs.Body.{instrument_all}
use Rattle.instrumentation.specs.Prologue.{prologue_text}
use Rattle.instrumentation.specs.Guarded.{extents_of, guarded}

abbrev n : Word
n = codes "n"

abbrev i : Word
i = codes "i"

abbrev at : PlainExpr → PlainExpr
at e = cell (codes "A") (more_exprs e no_exprs)

-- for (i = 0; i < hi; i++) A[i + 1] = A[i] + 1;
abbrev body : PlainExpr → PlainStmts
body hi = more_stmts (loop i (lit 0) Lt hi (more_stmts (assign (at (bin Add (var i) (lit 1))) None (bin Add (at (var i)) (lit 1))) no_stmts)) no_stmts

abbrev source : PlainExpr → PlainUnit
source hi = record {
  version = None;
  ranges = (n, pos 1, pos 1000) ∷ [];
  name = codes "shift";
  params = int_param n ∷ array_param (codes "A") false (more_exprs (var n) no_exprs) ∷ [];
  words = [];
  wides = [];
  body = body hi;
}

abbrev counted_if : PlainExpr → PlainExpr → PlainExpr → PlainExpr → List PlainStmt
counted_if a b c d = assign (var count) None (big 0 0) ∷ choice ((Le, a, b) ∷ (Le, c, d) ∷ []) (stmts_of (assign (var count) (Some Add) (big 0 1) ∷ [])) no_stmts ∷ []

-- the initial cell 0 is read where n is 2 or more, and a written cell but for the last two turns
abbrev cells : ℕ → PlainExprs → List PlainStmt
cells a es = counted_if (var (coordinate 0)) (lit 0) (lit 2) (var n)

abbrev pieces : ℕ → List PlainStmt
pieces k = counted_if (var i) (bin Sub (var n) (lit 3)) (lit 0) (lit 0)

abbrev printed : PlainExpr → PlainUnit
printed hi = record {
  version = Some 1;
  ranges = (n, pos 1, pos 1000) ∷ [];
  name = codes "bal_fn_shift";
  params = (source hi).params;
  words = (codes "bal_r0", 0) ∷ (codes "bal_w", 0) ∷ [];
  wides = codes "bal_k" ∷ codes "bal_def0" ∷ codes "bal_use0" ∷ [];
  body = stmts_of (prologue_text cells 0 ((codes "A", more_exprs (var n) no_exprs) ∷ []) ++ (begin ∷ (instrument_all (number_in (codes "A" ∷ [])) (extents_of (source hi).params) pieces 0 (body hi) ++ verdict ∷ [])));
}

abbrev inputs : PlainInputs
inputs = record { ints = pos 4 ∷ []; cells = (5 ∷ 0 ∷ 0 ∷ 0 ∷ []) ∷ [] }

-- bit 3 of cell 1, before the access with number 2
abbrev upset : Option Fault
upset = Some (record { array = 0; cell = 1; bit = 3; place = 2 })

abbrev right : PlainExpr
right = bin Sub (var n) (lit 1)

-- ---- with formulas

balanced_4 : (run (printed right) inputs None).verdict ≡ balanced
unfolding int_wrap digits register result count use_total definition_total coordinate disturbed
balanced_4 = refl

arrays_4 : (run (printed right) inputs None).arrays ≡ (5 ∷ 6 ∷ 7 ∷ 8 ∷ []) ∷ []
unfolding int_wrap digits register result count use_total definition_total coordinate disturbed
arrays_4 = refl

totals_4 : (run (printed right) inputs None).totals ≡ (18, 18) ∷ []
unfolding int_wrap digits register result count use_total definition_total coordinate disturbed
totals_4 = refl

fault_4 : (run (printed right) inputs upset).verdict ≡ fault (0 ∷ [])
unfolding int_wrap digits register result count use_total definition_total coordinate disturbed
fault_4 = refl

fault_totals_4 : (run (printed right) inputs upset).totals ≡ (26, 34) ∷ []
unfolding int_wrap digits register result count use_total definition_total coordinate disturbed
fault_totals_4 = refl

-- with the bound n it ends before the eighth access, as the source does
too_far_4 : (run (printed (var n)) inputs None).verdict ≡ outside 0
unfolding int_wrap digits register result count use_total definition_total coordinate disturbed
too_far_4 = refl

too_far_makes : length (run (printed (var n)) inputs None).accesses ≡ 7
unfolding int_wrap digits register result count use_total definition_total coordinate disturbed
too_far_makes = refl

-- ---- with counting passes

passes_4 : (run (guarded (source right)) inputs None).totals ≡ (18, 18) ∷ []
unfolding int_wrap digits register result count use_total definition_total coordinate pass_variable active counter function_name disturbed
passes_4 = refl

passes_verdict_4 : (run (guarded (source right)) inputs None).verdict ≡ balanced
unfolding int_wrap digits register result count use_total definition_total coordinate pass_variable active counter function_name disturbed
passes_verdict_4 = refl

passes_fault_4 : (run (guarded (source right)) inputs upset).totals ≡ (26, 34) ∷ []
unfolding int_wrap digits register result count use_total definition_total coordinate pass_variable active counter function_name disturbed
passes_fault_4 = refl
