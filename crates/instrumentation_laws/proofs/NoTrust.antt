-- Without any trust in its arrays, every source is trusted, and no fault is seen.
use Rattle.std.proofs.Common.{ℕ, false, List, refl, sym, true≢false, Option}
use Rattle.c_tree.specs.Plain.{Word, PlainExpr, lit, var, cell, un, bin, cast, test, umin, umax, least, greatest, widen, big, PlainStmt, loop, choice, assign, table, begin, check, verdict, PlainStmts, no_stmts, more_stmts}
use Rattle.c_tree.specs.Fault.{Upset}
use Rattle.c_tree.specs.Instances.{Tagged}
use Rattle.instrumentation.specs.Body.{full}
use Rattle.instrumentation_laws.specs.Kept.{Trust, Unseen}
use Rattle.instrumentation_laws.specs.Trusts.{TrustsExpr, TrustsTarget, Trusts, TrustsAll}

abbrev pub no_trust : Trust
no_trust = record { trusted = λ a. false; steady = λ a. false }

module _ (number : Word → ℕ) where
  any_expr : (e : PlainExpr) → TrustsExpr number no_trust e
  any_expr (lit n) = tt
  any_expr (var x) = tt
  any_expr (cell x at) = λ e. absurd (true≢false (sym e))
  any_expr (un op a) = any_expr a
  any_expr (bin op a b) = (any_expr a, any_expr b)
  any_expr (cast a) = any_expr a
  any_expr (test rel a b) = (any_expr a, any_expr b)
  any_expr (umin a b) = (any_expr a, any_expr b)
  any_expr (umax a b) = (any_expr a, any_expr b)
  any_expr (least a b) = tt
  any_expr (greatest a b) = tt
  any_expr (widen a) = tt
  any_expr (big high low) = tt

  any_target : (t : PlainExpr) → TrustsTarget number no_trust t
  any_target (lit n) = tt
  any_target (var x) = tt
  any_target (cell x at) = refl
  any_target (un op a) = tt
  any_target (bin op a b) = tt
  any_target (cast a) = tt
  any_target (test rel a b) = tt
  any_target (umin a b) = tt
  any_target (umax a b) = tt
  any_target (least a b) = tt
  any_target (greatest a b) = tt
  any_target (widen a) = tt
  any_target (big high low) = tt

  mutual
    any_stmt : (p : PlainStmt) → Trusts number no_trust p
    any_stmt (loop x lo rel hi body) = any_body body
    any_stmt (choice ts first other) = (any_body first, any_body other)
    any_stmt (assign t op e) = (any_target t, any_expr (full t op e))
    any_stmt (table x len) = tt
    any_stmt begin = tt
    any_stmt (check x extent a) = tt
    any_stmt verdict = tt

    pub any_body : (ps : PlainStmts) → TrustsAll number no_trust ps
    any_body no_stmts = tt
    any_body (more_stmts p ps) = (any_stmt p, any_body ps)

pub none_seen : (fault : Option Upset) (whole : List Tagged) → Unseen no_trust fault whole
none_seen fault whole = λ pre rest t is st. absurd (true≢false (sym st))
