-- Which units the interpreter runs, and which of them make no table.
use Rattle.std.specs.Prelude.{◌⊎◌, Bool, true, false, ◌&&◌}
use Rattle.c_tree.specs.Plain.{PlainStmt, loop, choice, assign, table, begin, check, verdict, PlainStmts, no_stmts, more_stmts, PlainUnit}
use Rattle.acceptance.specs.Printed.{IsAcceptedPrinted}
use Rattle.acceptance.specs.Sources.{IsAcceptedSource}

-- no statement makes a table
abbrev mutual
  pub makes_no_table : PlainStmt → Bool
  makes_no_table (loop x lo rel hi body) = all_make_no_table body
  makes_no_table (choice ts first other) = all_make_no_table first && all_make_no_table other
  makes_no_table (assign target op e) = true
  makes_no_table (table x len) = false
  makes_no_table begin = true
  makes_no_table (check x extent a) = true
  makes_no_table verdict = true

  pub all_make_no_table : PlainStmts → Bool
  all_make_no_table no_stmts = true
  all_make_no_table (more_stmts s ss) = makes_no_table s && all_make_no_table ss

-- an accepted source, or an accepted printed unit
abbrev pub IsRunnable : PlainUnit → Type 0
IsRunnable u = IsAcceptedSource u ⊎ IsAcceptedPrinted u
