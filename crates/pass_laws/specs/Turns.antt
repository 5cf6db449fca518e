-- How many turns statements make: each time the body of a loop is entered is one.
use Rattle.std.specs.Prelude.{ℕ, suc, ◌+◌, if◌then◌else◌, ◌∷◌, sum_by}
use Rattle.c_tree.specs.Plain.{PlainStmt, loop, choice, assign, table, begin, check, verdict, PlainStmts, no_stmts, more_stmts}
use Rattle.c_tree.specs.Values.{Vars, signed, loop_values}
use Rattle.instrumentation_laws.specs.AccessList.{tests_hold}

abbrev mutual
  pub turns : PlainStmt → Vars → ℕ
  turns (loop x lo rel hi body) vs = sum_by (λ v. suc (turns_all body ((x, v) ∷ vs))) (loop_values (signed lo vs) rel (signed hi vs))
  turns (choice ts first other) vs = if tests_hold ts vs then turns_all first vs else turns_all other vs
  turns (assign t op e) vs = 0
  turns (table x len) vs = 0
  turns begin vs = 0
  turns (check x extent a) vs = 0
  turns verdict vs = 0

  pub turns_all : PlainStmts → Vars → ℕ
  turns_all no_stmts vs = 0
  turns_all (more_stmts s ss) vs = turns s vs + turns_all ss vs
