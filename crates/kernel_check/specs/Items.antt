-- The items below a statement, in the tables before it.
use Rattle.std.specs.Prelude.{ℕ, suc, ◌+◌, Bool, true, ◌&&◌, List, [], ◌∷◌, ◌++◌}
use Rattle.c_tree.specs.Plain.{Word, PlainStmt, loop, choice, assign, table, begin, check, verdict, PlainStmts, no_stmts, more_stmts}
use Rattle.acceptance.specs.Items.{Item, Loop, one_item}
use Rattle.acceptance.specs.Runnable.{makes_no_table}
use Rattle.scopes.specs.Scopes.{loops_in}
use Rattle.scopes.specs.declared.scope.Scope.{Scope}

-- a statement as an item in a scope
abbrev pub item_in : Scope → PlainStmt → Item
item_in sc s = record { stmt = s; loops = loops_in sc.around.now; tables = sc.tables.now }

-- where no table is made on the way
abbrev mutual
  pub inner : PlainStmt → List Loop → List Word → List Item
  inner (loop x lo rel hi body) ls ts = one_item (loop x lo rel hi body) ls ts ++ inner_all body (record { name = x; lo = lo; rel = rel; hi = hi } ∷ ls) ts
  inner (choice tests first other) ls ts = one_item (choice tests first other) ls ts ++ (inner_all first ls ts ++ inner_all other ls ts)
  inner (assign target op e) ls ts = one_item (assign target op e) ls ts
  inner (table x len) ls ts = one_item (table x len) ls ts
  inner begin ls ts = []
  inner (check x extent a) ls ts = one_item (check x extent a) ls ts
  inner verdict ls ts = one_item verdict ls ts

  pub inner_all : PlainStmts → List Loop → List Word → List Item
  inner_all no_stmts ls ts = []
  inner_all (more_stmts s ss) ls ts = inner s ls ts ++ inner_all ss ls ts

-- a table, or a statement that makes none
abbrev pub is_flat : PlainStmt → Bool
is_flat (table x len) = true
is_flat s = makes_no_table s

-- tables are made at the top level alone
abbrev pub are_flat : PlainStmts → Bool
are_flat no_stmts = true
are_flat (more_stmts s ss) = is_flat s && are_flat ss

-- how many items there are
abbrev mutual
  pub items_in : PlainStmt → ℕ
  items_in (loop x lo rel hi body) = suc (all_items_in body)
  items_in (choice tests first other) = suc (all_items_in first + all_items_in other)
  items_in (assign target op e) = 1
  items_in (table x len) = 1
  items_in begin = 0
  items_in (check x extent a) = 1
  items_in verdict = 1

  pub all_items_in : PlainStmts → ℕ
  all_items_in no_stmts = 0
  all_items_in (more_stmts s ss) = items_in s + all_items_in ss
