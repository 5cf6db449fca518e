-- Which arrays are inspected: those of which some read has an index cell.
use Rattle.std.specs.Prelude.{ℕ, Bool, false, ◌||◌, ◌&&◌, not, nat_eq}
use Rattle.c_tree.specs.Plain.{Word, PlainExpr, lit, var, cell, un, bin, cast, test, umin, umax, least, greatest, widen, big, PlainStmt, loop, choice, assign, table, begin, check, verdict, PlainStmts, no_stmts, more_stmts}
use Rattle.instrumentation.specs.Subscripts.{indices_in}
use Rattle.instrumentation.specs.Body.{full}

-- an expression has such a read of array a
abbrev pub read_irregularly : (Word → ℕ) → ℕ → PlainExpr → Bool
read_irregularly number a (lit n) = false
read_irregularly number a (var x) = false
read_irregularly number a (cell x at) = nat_eq (number x) a && not (nat_eq (indices_in at) 0)
read_irregularly number a (un op e) = read_irregularly number a e
read_irregularly number a (bin op e g) = read_irregularly number a e || read_irregularly number a g
read_irregularly number a (cast e) = read_irregularly number a e
read_irregularly number a (test rel e g) = read_irregularly number a e || read_irregularly number a g
read_irregularly number a (umin e g) = read_irregularly number a e || read_irregularly number a g
read_irregularly number a (umax e g) = read_irregularly number a e || read_irregularly number a g
read_irregularly number a (least e g) = false
read_irregularly number a (greatest e g) = false
read_irregularly number a (widen e) = false
read_irregularly number a (big high low) = false

-- a statement has one
abbrev mutual
  pub inspects : (Word → ℕ) → ℕ → PlainStmt → Bool
  inspects number a (loop x lo rel hi body) = inspects_all number a body
  inspects number a (choice ts first other) = inspects_all number a first || inspects_all number a other
  inspects number a (assign t op e) = read_irregularly number a (full t op e)
  inspects number a (table x len) = false
  inspects number a begin = false
  inspects number a (check x extent n) = false
  inspects number a verdict = false

  pub inspects_all : (Word → ℕ) → ℕ → PlainStmts → Bool
  inspects_all number a no_stmts = false
  inspects_all number a (more_stmts s ss) = inspects number a s || inspects_all number a ss
