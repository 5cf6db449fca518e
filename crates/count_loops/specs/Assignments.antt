-- Of which assignment each site is.
use Rattle.std.specs.Prelude.{ℕ, ◌+◌, List, [], ◌++◌, map, slice_index_or}
use Rattle.c_tree.specs.Plain.{PlainStmt, loop, choice, assign, table, begin, check, verdict, PlainStmts, no_stmts, more_stmts}
use Rattle.c_tree.specs.Instances as instances
use Rattle.sites.specs.Sites.{Reach, accesses_of}

-- the same number for each of a list of accesses
abbrev pub repeated : ℕ → List Reach → List ℕ
repeated k = map (λ r. k)

-- For each site in text and access order the number of its assignment, the assignments being numbered in text order from k on.
abbrev mutual
  pub assignments : PlainStmt → ℕ → List ℕ
  assignments (loop x lo rel hi body) k = assignments_all body k
  assignments (choice ts first other) k = assignments_all first k ++ assignments_all other (k + instances.sites_all first)
  assignments (assign t op e) k = repeated k (accesses_of t op e)
  assignments (table x len) k = []
  assignments begin k = []
  assignments (check x extent a) k = []
  assignments verdict k = []

  pub assignments_all : PlainStmts → ℕ → List ℕ
  assignments_all no_stmts k = []
  assignments_all (more_stmts s ss) k = assignments s k ++ assignments_all ss (k + instances.sites s)

-- that of a site
abbrev pub assignment_of : PlainStmts → ℕ → ℕ
assignment_of body site = slice_index_or (assignments_all body 0) site 0
