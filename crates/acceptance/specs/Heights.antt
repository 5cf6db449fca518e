-- The height of the highest expression in a statement, and in a unit's extents.
use Rattle.std.specs.Prelude.{ℕ, ◌≤◌, max, List, [], ◌∷◌}
use Rattle.c_tree.specs.Plain.{PlainTest, PlainStmt, loop, choice, assign, table, begin, check, verdict, PlainStmts, no_stmts, more_stmts, PlainParam, int_param, array_param, PlainUnit}
use Rattle.c_tree.specs.Grammar.Expressions.{height, heights}
use Rattle.c_tree.specs.Grammar.Statements.{stmts_height}

abbrev pub tests_height : List PlainTest → ℕ
tests_height [] = 0
tests_height (t ∷ ts) = max (max (height t.1) (height t.2)) (tests_height ts)

abbrev mutual
  pub exprs_height : PlainStmt → ℕ
  exprs_height (loop x lo rel hi body) = max (max (height lo) (height hi)) (all_exprs_height body)
  exprs_height (choice ts first other) = max (tests_height ts) (max (all_exprs_height first) (all_exprs_height other))
  exprs_height (assign target op e) = max (height target) (height e)
  exprs_height (table x len) = height len
  exprs_height begin = 0
  exprs_height (check x extent a) = height extent
  exprs_height verdict = 0

  pub all_exprs_height : PlainStmts → ℕ
  all_exprs_height no_stmts = 0
  all_exprs_height (more_stmts s ss) = max (exprs_height s) (all_exprs_height ss)

abbrev pub extents_height : List PlainParam → ℕ
extents_height [] = 0
extents_height (int_param x ∷ ps) = extents_height ps
extents_height (array_param x constant extents ∷ ps) = max (heights extents) (extents_height ps)

-- no statement is higher than the first number, and no expression than the second
pub record IsLow (statements expressions : ℕ) (u : PlainUnit) : Type 0 where
  pub stmts : stmts_height u.body ≤ statements
  pub exprs : all_exprs_height u.body ≤ expressions
  pub extents : extents_height u.params ≤ expressions
