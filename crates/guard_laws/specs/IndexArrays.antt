-- Which arrays are index arrays: those of which a cell is a subscript of a read.
use Rattle.std.specs.Prelude.{ℕ, Bool, false, ◌||◌, nat_eq}
use Rattle.c_tree.specs.Plain.{Word, PlainExpr, lit, var, cell, un, bin, cast, test, umin, umax, least, greatest, widen, big, PlainExprs, no_exprs, more_exprs, PlainStmt, loop, choice, assign, table, begin, check, verdict, PlainStmts, no_stmts, more_stmts, PlainUnit}
use Rattle.instrumentation.specs.Subscripts.{by_cell}
use Rattle.instrumentation.specs.Body.{full}
use Rattle.instrumentation_laws.specs.RegularUnits.{number_for}

-- one of these subscripts is a cell of array a
abbrev pub indexed_by : (Word → ℕ) → ℕ → PlainExprs → Bool
indexed_by number a no_exprs = false
indexed_by number a (more_exprs e es) = by_cell e (λ p at. nat_eq (number p) a || indexed_by number a es) (indexed_by number a es)

-- some read of an expression has such a subscript
abbrev pub reads_through : (Word → ℕ) → ℕ → PlainExpr → Bool
reads_through number a (lit n) = false
reads_through number a (var x) = false
reads_through number a (cell x at) = indexed_by number a at
reads_through number a (un op e) = reads_through number a e
reads_through number a (bin op e g) = reads_through number a e || reads_through number a g
reads_through number a (cast e) = reads_through number a e
reads_through number a (test rel e g) = reads_through number a e || reads_through number a g
reads_through number a (umin e g) = reads_through number a e || reads_through number a g
reads_through number a (umax e g) = reads_through number a e || reads_through number a g
reads_through number a (least e g) = false
reads_through number a (greatest e g) = false
reads_through number a (widen e) = false
reads_through number a (big high low) = false

-- of a statement
abbrev mutual
  pub indexes : (Word → ℕ) → ℕ → PlainStmt → Bool
  indexes number a (loop x lo rel hi body) = indexes_all number a body
  indexes number a (choice ts first other) = indexes_all number a first || indexes_all number a other
  indexes number a (assign t op e) = reads_through number a (full t op e)
  indexes number a (table x len) = false
  indexes number a begin = false
  indexes number a (check x extent n) = false
  indexes number a verdict = false

  pub indexes_all : (Word → ℕ) → ℕ → PlainStmts → Bool
  indexes_all number a no_stmts = false
  indexes_all number a (more_stmts s ss) = indexes number a s || indexes_all number a ss

-- array a of a unit is an index array
abbrev pub is_index_array : PlainUnit → ℕ → Bool
is_index_array u a = indexes_all (number_for u) a u.body
