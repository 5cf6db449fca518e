-- A unit with an inspected array that is written, and an index array that passes count, meets what is asked of it;
-- computed for n = 2, it makes these tables and turns: for (i = 0; i < n; i++) X[i] = X[P[i]] + 1;
use Rattle.std.proofs.Common.{◌≡◌, ℕ, List, [], ◌∷◌, ℤ, pos, refl, codes, None, true, false, inl, arith}
use Rattle.std.specs.Int.{int_wrap}
use Rattle.std.specs.Fmt.{digits}
use Rattle.c_tree.specs.Plain.{PlainExpr, lit, var, cell, bin, PlainExprs, no_exprs, more_exprs, loop, assign, no_stmts, more_stmts, int_param, array_param, PlainUnit}
use Rattle.c_tree.specs.Values.{Vars}
use Rattle.c_tree.specs.Arrays.{Array, extents_at, vars_of}
use Rattle.c_tree.specs.Accesses.{sum_below, writes_of}
use Rattle.c_tree.specs.Inputs.{PlainInputs, arrays_for}
use Rattle.c_tree.specs.Run.{run, balanced}
use Rattle.c_tree.specs.declared.expr.Rel.TheVariants.{Lt}
use Rattle.c_tree.specs.declared.expr.BinOp.TheVariants.{Add}
use Rattle.instrumentation.specs.Names.{register, result, count, definition_total, use_total, coordinate, pass_variable, active, counter, written, index_word, current, counts, function_name}
use Rattle.instrumentation.specs.Inspects.{inspects_all}
use Rattle.instrumentation.specs.Guarded.{guarded}
use Rattle.instrumentation_laws.specs.RegularUnits.{number_for, AreMeasured}
use Rattle.pass_laws.specs.Countable.{IsCell, IsRead, AreCountable}
use Rattle.inspection_laws.specs.CountedUnits.{IsCountableUnit}
use Rattle.inspection_laws.specs.UnitTurns.{MakesTurns, tables_for}
use Rattle.inspection_laws.specs.Walked.{IsKnown, AreWalked, AreExtents}
use Rattle.inspection_laws.proofs.Membership.{names_have_tables}

abbrev n : PlainExprs
n = more_exprs (var (codes "n")) no_exprs

abbrev at_i : PlainExprs
at_i = more_exprs (var (codes "i")) no_exprs

abbrev gather : PlainExpr
gather = cell (codes "X") (more_exprs (cell (codes "P") at_i) no_exprs)

abbrev source : PlainUnit
source = record {
  version = None;
  ranges = (codes "n", pos 1, pos 1000) ∷ [];
  name = codes "g";
  params = int_param (codes "n") ∷ array_param (codes "P") true n ∷ array_param (codes "X") false n ∷ [];
  words = [];
  wides = [];
  body = more_stmts (loop (codes "i") (lit 0) Lt (var (codes "n")) (more_stmts (assign (cell (codes "X") at_i) None (bin Add gather (lit 1))) no_stmts)) no_stmts;
}

abbrev ns : List ℤ
ns = pos 2 ∷ []

abbrev arrays : List Array
arrays = arrays_for source ns

abbrev under : ℤ → Vars
under i = (codes "i", i) ∷ (codes "n", pos 2) ∷ []

at_p : (i : ℤ) → IsCell arrays (number_for source) (codes "P") at_i (under i)
unfolding int_wrap
at_p i = record { array = _; named = refl; numbered = refl; affine = (refl, tt); ranked = refl }

at_x : (i : ℤ) → IsCell arrays (number_for source) (codes "X") at_i (under i)
unfolding int_wrap
at_x i = record { array = _; named = refl; numbered = refl; affine = (refl, tt); ranked = refl }

reads_x : (i : ℤ) → IsRead arrays (number_for source) (codes "X") (more_exprs (cell (codes "P") at_i) no_exprs) (under i)
unfolding int_wrap
reads_x i = record { array = _; named = refl; numbered = refl; indexed = (at_p i, tt); ranked = refl }

known_p : IsKnown arrays (number_for source) (codes "P")
unfolding int_wrap
known_p = record { array = _; named = refl; numbered = refl }

known_x : IsKnown arrays (number_for source) (codes "X")
unfolding int_wrap
known_x = record { array = _; named = refl; numbered = refl }

is_countable : AreCountable arrays (number_for source) source.body (vars_of source.params ns)
is_countable = ((tt, refl, record { own_name = refl; fresh = refl; shallow = omega arith }, λ i. ((at_x i, (reads_x i, tt)), tt)), tt)

is_walked : AreWalked arrays (number_for source) source.body (vars_of source.params ns)
unfolding int_wrap known_p known_x
is_walked = (
  (
    tt,
    refl,
    record { own_name = refl; fresh = refl; shallow = omega arith },
    λ i. ((((refl, inl refl), tt), ((((known_p, ((refl, inl refl), tt), omega arith, refl), tt), omega arith, (known_x, refl)), tt)), tt),
  ),
  tt,
)

small : (a : ℕ) → extents_at arrays a ≡ pos 2 ∷ [] → AreExtents n (extents_at arrays a) (vars_of source.params ns)
small a e = rw e ((refl, inl refl), (2, refl, refl, omega arith), omega arith, tt)

countable : IsCountableUnit source ns
unfolding int_wrap
countable = record {
  params = (refl, tt);
  tables = names_have_tables source ns (refl, (refl, tt));
  few = omega arith;
  ranks = (omega arith, (omega arith, tt));
  countable = is_countable;
  walked = is_walked;
  extents = ((λ e. small 0 refl), ((λ e. small 1 refl), tt));
}

measured : AreMeasured (vars_of source.params ns) source.params
unfolding int_wrap
measured = (refl, (refl, refl, tt), omega arith, (refl, (refl, refl, tt), omega arith, tt))

by_class : (inspects_all (number_for source) 0 source.body ≡ false) × (inspects_all (number_for source) 1 source.body ≡ true)
by_class = (refl, refl)

-- ---- the run

abbrev inputs : PlainInputs
inputs = record { ints = ns; cells = (1 ∷ 0 ∷ []) ∷ (10 ∷ 20 ∷ []) ∷ [] }

verdict_2 : (run (guarded source) inputs None).verdict ≡ balanced
unfolding int_wrap digits register result count use_total definition_total coordinate pass_variable active counter written index_word current counts function_name
verdict_2 = refl

arrays_2 : (run (guarded source) inputs None).arrays ≡ (1 ∷ 0 ∷ []) ∷ (21 ∷ 22 ∷ []) ∷ []
unfolding int_wrap digits register result count use_total definition_total coordinate pass_variable active counter written index_word current counts function_name
arrays_2 = refl

tables_2 : (run (guarded source) inputs None).tables ≡ 2 ∷ 4 ∷ []
unfolding int_wrap digits register result count use_total definition_total coordinate pass_variable active counter written index_word current counts function_name
tables_2 = refl

-- the source makes 2 turns; the body no more, since its writes are counted by tables, and the prologue 4 in its walks over cells, 4 for the cells of P and 4 in the walks for the tables of X
turns_2 : ((run (guarded source) inputs None).body_turns ≡ 2) × ((run (guarded source) inputs None).prologue_turns ≡ 12)
unfolding int_wrap digits register result count use_total definition_total coordinate pass_variable active counter written index_word current counts function_name
turns_2 = (refl, refl)

as_the_law_says : (tables_for source inputs ≡ 2 ∷ 4 ∷ []) × MakesTurns source inputs (run (guarded source) inputs None)
unfolding int_wrap digits register result count use_total definition_total coordinate pass_variable active counter written index_word current counts function_name writes_of sum_below
as_the_law_says = (refl, record { body = refl; prologue = refl })
