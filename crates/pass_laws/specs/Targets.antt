-- The targets of a source's assignments, in text order.
use Rattle.std.specs.Prelude.{ℕ, Bool, false, List, [], ◌∷◌, ◌++◌, slice_index_or}
use Rattle.c_tree.specs.Plain.{Word, PlainExpr, lit, PlainStmt, loop, choice, assign, table, begin, check, verdict, PlainStmts, no_stmts, more_stmts}
use Rattle.instrumentation.specs.Subscripts.{by_cell}
use Rattle.instrumentation.specs.Inspects.{inspects_all}

abbrev mutual
  pub targets : PlainStmt → List PlainExpr
  targets (loop x lo rel hi body) = targets_all body
  targets (choice ts first other) = targets_all first ++ targets_all other
  targets (assign t op e) = t ∷ []
  targets (table x len) = []
  targets begin = []
  targets (check x extent a) = []
  targets verdict = []

  pub targets_all : PlainStmts → List PlainExpr
  targets_all no_stmts = []
  targets_all (more_stmts s ss) = targets s ++ targets_all ss

-- the target of an assignment, by its number; a literal where there is no such assignment
abbrev pub target_in : List PlainExpr → ℕ → PlainExpr
target_in list k = slice_index_or list k (lit 0)

abbrev pub target_at : PlainStmts → ℕ → PlainExpr
target_at body k = target_in (targets_all body) k

-- it is a cell of an inspected array
abbrev pub is_inspected : (Word → ℕ) → PlainStmts → PlainExpr → Bool
is_inspected number body t = by_cell t (λ x at. inspects_all number (number x) body) false
