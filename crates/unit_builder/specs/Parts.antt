-- Single pieces of a source: that of an array, and that of an assignment by its number.
use Rattle.std.specs.Prelude.{ℕ, suc, ◌-◌, nat_lt, nat_eq, if◌then◌else◌, List, [], ◌∷◌, Option, Some, None}
use Rattle.c_tree.specs.Plain.{Word, PlainExpr, PlainExprs, PlainStmt, loop, choice, assign, table, begin, check, verdict, PlainStmts, no_stmts, more_stmts}
use Rattle.c_tree.specs.Instances.{sites, sites_all}
use Rattle.instrumentation.specs.Passes.{write_piece}

-- the piece of the array of number a, the arrays being numbered from k on; none where there is no such array
abbrev pub array_piece : (ℕ → PlainExprs → List PlainStmt) → ℕ → ℕ → List (Word × PlainExprs) → List PlainStmt
array_piece piece a k [] = []
array_piece piece a k (x ∷ more) = if nat_eq k a then piece k x.1 else array_piece piece a (suc k) more

-- the target of the assignment of number k, the assignments being numbered in text order from 0 on
abbrev mutual
  pub target_in : PlainStmt → ℕ → Option PlainExpr
  target_in (loop x lo rel hi body) k = target_among body k
  target_in (choice ts first other) k = if nat_lt k (sites_all first) then target_among first k else target_among other (k - sites_all first)
  target_in (assign t op e) k = if nat_eq k 0 then Some t else None
  target_in (table x len) k = None
  target_in begin k = None
  target_in (check x extent a) k = None
  target_in verdict k = None

  pub target_among : PlainStmts → ℕ → Option PlainExpr
  target_among no_stmts k = None
  target_among (more_stmts s ss) k = if nat_lt k (sites s) then target_in s k else target_among ss (k - sites s)

-- the pass of the assignment of number k; none where it stores into no array
abbrev pub pass_to : (Word → ℕ) → PlainStmts → ℕ → Option PlainExpr → List PlainStmt
pass_to number whole k None = []
pass_to number whole k (Some t) = write_piece number whole k t

abbrev pub pass_at : (Word → ℕ) → PlainStmts → ℕ → List PlainStmt
pass_at number whole k = pass_to number whole k (target_among whole k)
