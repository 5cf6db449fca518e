-- What the loops, choices and tests of a copy do, by the values that the source's have.
use Rattle.std.proofs.Common.{◌≡◌, ◌<◌, ◌^◌, Bool, true, false, cond, ◌&&◌, List, [], ◌∷◌, ◌++◌, length, refl, ap, ◌∙◌, arith}
use Rattle.std.specs.Ordering.{int_eq}
use Rattle.c_tree.specs.Plain.{PlainExpr, PlainExprs, no_exprs, more_exprs, PlainTest, loop, choice, PlainStmts}
use Rattle.c_tree.specs.Values.{Vars, signed, loop_values}
use Rattle.c_tree.specs.Arrays.{same_cell}
use Rattle.c_tree.specs.Run.{State, and_then, Scope, turn, over, exec, exec_all}
use Rattle.c_tree.specs.declared.expr.Rel.{Rel}
use Rattle.instrumentation.specs.Names.{pass_variable}
use Rattle.instrumentation.specs.Passes.{renamed, renamed_all, renamed_tests}
use Rattle.instrumentation.specs.Passes.{same_cell as same_cell_tests}
use Rattle.instrumentation_laws.specs.RegularSources.{AreSigned}
use Rattle.instrumentation_laws.proofs.Steps.{all_hold_is}
use Rattle.pass_laws.specs.Countable.{AreOwn, IsAffine, AreAffine, AreAffineTests, rank}
use Rattle.instrumentation_laws.specs.AccessList.{signed_all, tests_hold}
use Rattle.pass_laws.specs.Places.{IsPlace}
use Rattle.pass_laws.proofs.Renamed.{names, copied_vars, affine_pair_kind, signed_renamed, affine_renamed_tests, tests_renamed, affine_renamed_all, signed_renamed_all, rank_renamed, affine_under_all, signed_under_all}

-- ---- tests

pub affine_tests : (ts : List PlainTest) (vs : Vars) → AreAffineTests ts vs → AreSigned ts vs
affine_tests [] vs h = tt
affine_tests (t ∷ ts) vs h = (affine_pair_kind t.1 t.2 vs h.0.0 h.0.1, affine_tests ts vs h.1)

-- a choice by affine tests
pub choice_is : (sc : Scope) (ts : List PlainTest) (first other : PlainStmts) (vs : Vars) (s : State) (b : Bool) → AreAffineTests ts vs → tests_hold ts vs ≡ b →
    exec sc (choice ts first other) vs s ≡ cond b (exec_all sc first vs s) (exec_all sc other vs s)
choice_is sc ts first other vs s b h e =
    ap (λ o. and_then o (λ b. cond b (exec_all sc first vs) (exec_all sc other vs))) (all_hold_is sc ts vs s (affine_tests ts vs h)) ∙
    ap (λ c. cond c (exec_all sc first vs) (exec_all sc other vs) s) e ∙ applied b
  where
    applied : (b : Bool) → cond b (exec_all sc first vs) (exec_all sc other vs) s ≡ cond b (exec_all sc first vs s) (exec_all sc other vs s)
    applied true = refl
    applied false = refl

-- two cells of one array, subscript by subscript
pub cell_tests_affine : (ds es : PlainExprs) (vs : Vars) → AreAffine ds vs → AreAffine es vs → AreAffineTests (same_cell_tests ds es) vs
cell_tests_affine no_exprs es vs h g = tt
cell_tests_affine (more_exprs d ds) no_exprs vs h g = tt
cell_tests_affine (more_exprs d ds) (more_exprs e es) vs h g = ((h.0, g.0), cell_tests_affine ds es vs h.1 g.1)

pub cell_tests_are : (ds es : PlainExprs) (vs : Vars) → rank ds ≡ rank es → tests_hold (same_cell_tests ds es) vs ≡ same_cell (signed_all ds vs) (signed_all es vs)
cell_tests_are no_exprs no_exprs vs r = refl
cell_tests_are no_exprs (more_exprs e es) vs r = absurd (omega arith)
cell_tests_are (more_exprs d ds) no_exprs vs r = absurd (omega arith)
cell_tests_are (more_exprs d ds) (more_exprs e es) vs r = ap (λ b. int_eq (signed d vs) (signed e vs) && b) (cell_tests_are ds es vs (omega arith))

-- ---- the copy

module _ (sc : Scope) (params base : Vars) (place : IsPlace params base) (own_params : AreOwn params) (loops : Vars) (own_loops : AreOwn loops) (shallow : length (names loops) < 2 ^ 64) where
  -- a loop of the copy takes the values of the source's
  pub loop_is : (lo hi : PlainExpr) (rel : Rel) (body : PlainStmts) (s : State) → IsAffine lo (loops ++ params) → IsAffine hi (loops ++ params) →
      exec sc (loop (pass_variable (length (names loops))) (renamed (names loops) lo) rel (renamed (names loops) hi) body) (copied_vars loops ++ base) s
      ≡ over (λ v. λ t. and_then (turn t) (λ u. exec_all sc body ((pass_variable (length (names loops)), v) ∷ (copied_vars loops ++ base)))) (loop_values (signed lo (loops ++ params)) rel (signed hi (loops ++ params))) s
  loop_is lo hi rel body s h g = rw (signed_renamed params base place own_params loops own_loops shallow lo h, signed_renamed params base place own_params loops own_loops shallow hi g) refl

  -- a choice of the copy goes where the source's goes
  pub choice_copied : (ts : List PlainTest) (first other : PlainStmts) (s : State) (b : Bool) → AreAffineTests ts (loops ++ params) → tests_hold ts (loops ++ params) ≡ b →
      exec sc (choice (renamed_tests (names loops) ts) first other) (copied_vars loops ++ base) s
      ≡ cond b (exec_all sc first (copied_vars loops ++ base) s) (exec_all sc other (copied_vars loops ++ base) s)
  choice_copied ts first other s b h e =
      choice_is sc (renamed_tests (names loops) ts) first other (copied_vars loops ++ base) s b (affine_renamed_tests params base place own_params loops own_loops shallow ts h)
      (tests_renamed params base place own_params loops own_loops shallow ts h ∙ e)

  -- the test of a cell of the source against the target, which stands at the place of the pass
  pub target_is : (at target : PlainExprs) (first other : PlainStmts) (s : State) (b : Bool) → AreAffine at (loops ++ params) → AreAffine target base → rank at ≡ rank target →
      same_cell (signed_all at (loops ++ params)) (signed_all target base) ≡ b →
      exec sc (choice (same_cell_tests (renamed_all (names loops) at) target) first other) (copied_vars loops ++ base) s
      ≡ cond b (exec_all sc first (copied_vars loops ++ base) s) (exec_all sc other (copied_vars loops ++ base) s)
  target_is at target first other s b h g r e =
      let affine = affine_renamed_all params base place own_params loops own_loops shallow at h in
      let values = signed_renamed_all params base place own_params loops own_loops shallow at h in
      let under = signed_under_all base place.variables loops target g in
      choice_is sc (same_cell_tests (renamed_all (names loops) at) target) first other (copied_vars loops ++ base) s b
      (cell_tests_affine (renamed_all (names loops) at) target (copied_vars loops ++ base) affine (affine_under_all base place.variables loops target g))
      (cell_tests_are (renamed_all (names loops) at) target (copied_vars loops ++ base) (rank_renamed (names loops) at ∙ r) ∙
      ap (λ c. same_cell c (signed_all target (copied_vars loops ++ base))) values ∙ ap (λ c. same_cell (signed_all at (loops ++ params)) c) under ∙ e)
