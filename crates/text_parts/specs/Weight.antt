-- How large a tree is: a number that falls from a statement to its parts.
use Rattle.std.specs.Prelude.{ℕ, ◌+◌}
use Rattle.c_tree.specs.Plain.{PlainStmt, loop, choice, assign, table, begin, check, verdict, PlainStmts, no_stmts, more_stmts}

-- statements and lists of statements
abbrev mutual
  pub weight : PlainStmt → ℕ
  weight (loop x lo rel hi body) = 1 + weight_all body
  weight (choice ts first other) = 1 + (weight_all first + weight_all other)
  weight (assign t op e) = 1
  weight (table x len) = 1
  weight begin = 1
  weight (check x extent a) = 1
  weight verdict = 1

  pub weight_all : PlainStmts → ℕ
  weight_all no_stmts = 0
  weight_all (more_stmts s ss) = 1 + (weight s + weight_all ss)
