-- How many accesses meet a test, counted without a list of them.
use Rattle.std.specs.Prelude.{ℕ, ◌+◌, Bool, true, false, List, ◌∷◌, Option, Some, None}
use Rattle.c_tree.specs.Plain.{Word, PlainExpr, lit, var, cell, un, bin, cast, test, umin, umax, least, greatest, widen, big, PlainExprs, no_exprs, more_exprs, PlainStmt, loop, choice, assign, table, begin, check, verdict, PlainStmts, no_stmts, more_stmts}
use Rattle.c_tree.specs.declared.expr.BinOp.{BinOp}
use Rattle.sites.specs.Sites.{Frame, in_loop, in_branch, Reach, read_of}

abbrev pub bit : Bool → ℕ
bit true = 1
bit false = 0

abbrev mutual
  pub found_in : (Reach → Bool) → PlainExpr → ℕ
  found_in p (lit n) = 0
  found_in p (var x) = 0
  found_in p (cell x at) = found_in_all p at + bit (p (read_of x at))
  found_in p (un op a) = found_in p a
  found_in p (bin op a b) = found_in p a + found_in p b
  found_in p (cast a) = found_in p a
  found_in p (test rel a b) = found_in p a + found_in p b
  found_in p (umin a b) = found_in p a + found_in p b
  found_in p (umax a b) = found_in p a + found_in p b
  found_in p (least a b) = 0
  found_in p (greatest a b) = 0
  found_in p (widen a) = found_in p a
  found_in p (big high low) = 0

  pub found_in_all : (Reach → Bool) → PlainExprs → ℕ
  found_in_all p no_exprs = 0
  found_in_all p (more_exprs e es) = found_in p e + found_in_all p es

abbrev pub found_old : (Reach → Bool) → Option BinOp → Word → PlainExprs → ℕ
found_old p None x at = 0
found_old p (Some op) x at = bit (p (read_of x at))

abbrev pub found_at : (Reach → Bool) → PlainExpr → Option BinOp → PlainExpr → ℕ
found_at p (cell x at) op e = found_in_all p at + (found_old p op x at + (found_in p e + bit (p (record { name = x; at = at; writes = true }))))
found_at p _ op e = found_in p e

abbrev mutual
  pub found : (List Frame → Reach → Bool) → PlainStmt → List Frame → ℕ
  found p (loop x lo rel hi body) fs = found_all p body (in_loop (record { name = x; lo = lo; rel = rel; hi = hi }) ∷ fs)
  found p (choice ts first other) fs = found_all p first (in_branch true ts ∷ fs) + found_all p other (in_branch false ts ∷ fs)
  found p (assign target op e) fs = found_at (p fs) target op e
  found p (table x len) fs = 0
  found p begin fs = 0
  found p (check x extent a) fs = 0
  found p verdict fs = 0

  pub found_all : (List Frame → Reach → Bool) → PlainStmts → List Frame → ℕ
  found_all p no_stmts fs = 0
  found_all p (more_stmts s ss) fs = found p s fs + found_all p ss fs
