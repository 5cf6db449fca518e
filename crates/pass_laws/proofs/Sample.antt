-- Two sources that passes can count. The first has two loops with a choice, a scalar, a compound assignment and an array of two dimensions;
-- the unit with its passes, computed for n = 2, balances with these totals and turns:
-- for (t = 0; t < 2; t++) for (i = 0; i < n; i++) { if (i < 1) { A[i][0] = A[i][1] + s; } else { A[i - 1][0] += B[i]; } A[0][1] = A[0][0] + A[0][0]; s = A[0][1]; }
use Rattle.std.proofs.Common.{◌≡◌, ℕ, List, [], ◌∷◌, ℤ, pos, refl, codes, Some, None, true, false, arith}
use Rattle.std.specs.Int.{int_wrap}
use Rattle.std.specs.Fmt.{digits}
use Rattle.c_tree.specs.Plain.{Word, PlainExpr, lit, var, cell, bin, PlainExprs, no_exprs, more_exprs, loop, choice, assign, PlainStmts, no_stmts, more_stmts, int_param, array_param, PlainUnit}
use Rattle.c_tree.specs.Values.{Vars}
use Rattle.c_tree.specs.Arrays.{Array, vars_of}
use Rattle.c_tree.specs.Inputs.{PlainInputs, arrays_for}
use Rattle.c_tree.specs.Run.{run, balanced}
use Rattle.c_tree.specs.declared.expr.Rel.TheVariants.{Lt}
use Rattle.c_tree.specs.declared.expr.BinOp.TheVariants.{Add, Sub}
use Rattle.instrumentation.specs.Names.{register, result, count, definition_total, use_total, coordinate, pass_variable, active, counter, function_name}
use Rattle.instrumentation.specs.Guarded.{guarded}
use Rattle.instrumentation.specs.Names.{number_in}
use Rattle.instrumentation.specs.Guarded.{array_names}
use Rattle.instrumentation.specs.Inspects.{inspects_all}
use Rattle.pass_laws.specs.Countable.{AreAffine, IsCell, IsRead, AreOwn, AreCountable}

abbrev a_at : PlainExpr → ℕ → PlainExpr
a_at e k = cell (codes "A") (more_exprs e (more_exprs (lit k) no_exprs))

abbrev i : PlainExpr
i = var (codes "i")

abbrev inner : PlainStmts
inner =
    more_stmts (choice ((Lt, i, lit 1) ∷ [])
    (more_stmts (assign (a_at i 0) None (bin Add (a_at i 1) (var (codes "s")))) no_stmts)
    (more_stmts (assign (a_at (bin Sub i (lit 1)) 0) (Some Add) (cell (codes "B") (more_exprs i no_exprs))) no_stmts))
    (more_stmts (assign (a_at (lit 0) 1) None (bin Add (a_at (lit 0) 0) (a_at (lit 0) 0)))
    (more_stmts (assign (var (codes "s")) None (a_at (lit 0) 1)) no_stmts))

abbrev source : PlainUnit
source = record {
  version = None;
  ranges = (codes "n", pos 1, pos 1000) ∷ [];
  name = codes "f";
  params = int_param (codes "n") ∷ array_param (codes "A") false (more_exprs (var (codes "n")) (more_exprs (lit 2) no_exprs)) ∷ array_param (codes "B") true (more_exprs (var (codes "n")) no_exprs) ∷ [];
  words = (codes "s", 7) ∷ [];
  wides = [];
  body = more_stmts (loop (codes "t") (lit 0) Lt (lit 2) (more_stmts (loop (codes "i") (lit 0) Lt (var (codes "n")) inner) no_stmts)) no_stmts;
}

-- ---- the premises

abbrev vars : ℤ → ℤ → ℤ → Vars
vars n t i = (codes "i", i) ∷ (codes "t", t) ∷ (codes "n", n) ∷ []

abbrev arrays : ℤ → List Array
arrays n = arrays_for source (n ∷ [])

abbrev number : PlainUnit → Word → ℕ
number u = number_in (array_names u.params)

a_cell : (n t j : ℤ) (e : PlainExpr) (k : ℕ) → AreAffine (more_exprs e no_exprs) (vars n t j) → IsCell (arrays n) (number source) (codes "A") (more_exprs e (more_exprs (lit k) no_exprs)) (vars n t j)
unfolding int_wrap
a_cell n t j e k h = record { array = _; named = refl; numbered = refl; affine = (h.0, (tt, tt)); ranked = refl }

a_read : (n t j : ℤ) (k m : ℕ) → IsRead (arrays n) (number source) (codes "A") (more_exprs (lit k) (more_exprs (lit m) no_exprs)) (vars n t j)
unfolding int_wrap
a_read n t j k m = record { array = _; named = refl; numbered = refl; indexed = (tt, (tt, tt)); ranked = refl }

a_row : (n t j : ℤ) (m : ℕ) → IsRead (arrays n) (number source) (codes "A") (more_exprs i (more_exprs (lit m) no_exprs)) (vars n t j)
unfolding int_wrap
a_row n t j m = record { array = _; named = refl; numbered = refl; indexed = (refl, (tt, tt)); ranked = refl }

b_read : (n t j : ℤ) → IsRead (arrays n) (number source) (codes "B") (more_exprs i no_exprs) (vars n t j)
unfolding int_wrap
b_read n t j = record { array = _; named = refl; numbered = refl; indexed = (refl, tt); ranked = refl }

countable : AreOwn (vars_of source.params (pos 2 ∷ [])) × AreCountable (arrays (pos 2)) (number source) source.body (vars_of source.params (pos 2 ∷ []))
unfolding int_wrap
countable = (
  (refl, tt),
  (
    (
      tt,
      tt,
      record { own_name = refl; fresh = refl; shallow = omega arith },
      λ t. (
        (
          tt,
          refl,
          record { own_name = refl; fresh = refl; shallow = omega arith },
          λ j. (
            (
              ((refl, tt), tt),
              ((a_cell (pos 2) t j i 0 (refl, tt), (a_row (pos 2) t j 1, tt)), tt),
              ((a_cell (pos 2) t j (bin Sub i (lit 1)) 0 ((refl, tt), tt), b_read (pos 2) t j), tt),
            ),
            ((
              (a_cell (pos 2) t j (lit 0) 1 (tt, tt), (a_read (pos 2) t j 0 0, a_read (pos 2) t j 0 0)),
              ((tt, a_read (pos 2) t j 0 1), tt),
            )),
          ),
        ),
        tt,
      ),
    ),
    tt,
  ),
)

-- ---- a source with an index cell: for (i = 0; i < n; i++) Y[i] = X[P[i]];

abbrev at_i : PlainExprs
at_i = more_exprs i no_exprs

abbrev gather : PlainUnit
gather = record {
  version = None;
  ranges = (codes "n", pos 1, pos 1000) ∷ [];
  name = codes "g";
  params = int_param (codes "n") ∷ array_param (codes "P") true (more_exprs (var (codes "n")) no_exprs) ∷ array_param (codes "X") true (more_exprs (var (codes "n")) no_exprs) ∷ array_param (codes "Y") false (more_exprs (var (codes "n")) no_exprs) ∷ [];
  words = [];
  wides = [];
  body = more_stmts (loop (codes "i") (lit 0) Lt (var (codes "n")) (more_stmts (assign (cell (codes "Y") at_i) None (cell (codes "X") (more_exprs (cell (codes "P") at_i) no_exprs))) no_stmts)) no_stmts;
}

abbrev gathered : ℤ → ℤ → Vars
gathered n i = (codes "i", i) ∷ (codes "n", n) ∷ []

at_p : (n j : ℤ) → IsCell (arrays_for gather (n ∷ [])) (number gather) (codes "P") at_i (gathered n j)
unfolding int_wrap
at_p n j = record { array = _; named = refl; numbered = refl; affine = (refl, tt); ranked = refl }

at_x : (n j : ℤ) → IsRead (arrays_for gather (n ∷ [])) (number gather) (codes "X") (more_exprs (cell (codes "P") at_i) no_exprs) (gathered n j)
unfolding int_wrap
at_x n j = record { array = _; named = refl; numbered = refl; indexed = (at_p n j, tt); ranked = refl }

at_y : (n j : ℤ) → IsCell (arrays_for gather (n ∷ [])) (number gather) (codes "Y") at_i (gathered n j)
unfolding int_wrap
at_y n j = record { array = _; named = refl; numbered = refl; affine = (refl, tt); ranked = refl }

gather_countable : (n : ℤ) → AreCountable (arrays_for gather (n ∷ [])) (number gather) gather.body (vars_of gather.params (n ∷ []))
gather_countable n = ((tt, refl, record { own_name = refl; fresh = refl; shallow = omega arith }, λ j. ((at_y n j, at_x n j), tt)), tt)

-- P and Y are counted by passes
not_inspected : (inspects_all (number gather) 0 gather.body ≡ false) × (inspects_all (number gather) 1 gather.body ≡ true) × (inspects_all (number gather) 2 gather.body ≡ false)
not_inspected = (refl, refl, refl)

-- ---- the run

abbrev inputs : PlainInputs
inputs = record { ints = pos 2 ∷ []; cells = (1 ∷ 2 ∷ 3 ∷ 4 ∷ []) ∷ (10 ∷ 20 ∷ []) ∷ [] }

verdict_2 : (run (guarded source) inputs None).verdict ≡ balanced
unfolding int_wrap digits register result count use_total definition_total coordinate pass_variable active counter function_name
verdict_2 = refl

totals_2 : (run (guarded source) inputs None).totals ≡ (1345, 1345) ∷ (40, 40) ∷ []
unfolding int_wrap digits register result count use_total definition_total coordinate pass_variable active counter function_name
totals_2 = refl

arrays_2 : (run (guarded source) inputs None).arrays ≡ (136 ∷ 272 ∷ 3 ∷ 4 ∷ []) ∷ (10 ∷ 20 ∷ []) ∷ []
unfolding int_wrap digits register result count use_total definition_total coordinate pass_variable active counter function_name
arrays_2 = refl

-- the source makes 6 turns; the body makes them for itself and for 8 writes, the prologue for 6 cells and in 8 turns of its own
body_turns_2 : (run (guarded source) inputs None).body_turns ≡ 54
unfolding int_wrap digits register result count use_total definition_total coordinate pass_variable active counter function_name
body_turns_2 = refl

prologue_turns_2 : (run (guarded source) inputs None).prologue_turns ≡ 44
unfolding int_wrap digits register result count use_total definition_total coordinate pass_variable active counter function_name
prologue_turns_2 = refl
