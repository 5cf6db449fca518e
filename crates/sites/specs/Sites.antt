-- The sites of a source: its reads and writes of arrays, in text and access order.
use Rattle.std.specs.Prelude.{ℕ, suc, ◌+◌, Bool, true, false, List, [], ◌∷◌, ◌++◌, map, filter, length, not, Option, Some, None, bytes_eq}
use Rattle.c_tree.specs.Names.{ints_in}
use Rattle.c_tree.specs.Plain.{Word, PlainExpr, lit, var, cell, un, bin, cast, test, umin, umax, least, greatest, widen, big, PlainExprs, no_exprs, more_exprs, PlainTest, PlainStmt, loop, choice, assign, table, begin, check, verdict, PlainStmts, no_stmts, more_stmts, PlainUnit}
use Rattle.c_tree.specs.declared.expr.BinOp.{BinOp}
use Rattle.acceptance.specs.Items.{Loop}

-- a loop around a place, or an `if` with the branch that the place stands in: the first one or the other
pub data Frame : Type 0 where
  in_loop : Loop → Frame
  in_branch : Bool → List PlainTest → Frame

-- an access: the array's name, its subscripts, and whether it writes
pub record Reach : Type 0 where
  pub name : Word
  pub at : PlainExprs
  pub writes : Bool

-- a frame with the number of its item, and in a loop with that of its variable
pub data Outer : Type 0 where
  outer_loop : ℕ → ℕ → Loop → Outer
  outer_branch : ℕ → Bool → List PlainTest → Outer

abbrev pub frame_of : Outer → Frame
frame_of (outer_loop n v l) = in_loop l
frame_of (outer_branch n first ts) = in_branch first ts

abbrev pub bare : List Outer → List Frame
bare = map frame_of

-- An access in its place: the number of its statement, the how manieth access of that it is, and what stands around it, the innermost first.
pub record Site : Type 0 where
  pub statement : ℕ
  pub position : ℕ
  pub outers : List Outer
  pub reach : Reach

abbrev pub around : Site → List Frame
around s = bare s.outers

-- ---- the accesses of an assignment

abbrev pub read_of : Word → PlainExprs → Reach
read_of x at = record { name = x; at = at; writes = false }

-- the reads of an expression from left to right, index cells before the cell that they name
abbrev mutual
  pub reads_in : PlainExpr → List Reach
  reads_in (lit n) = []
  reads_in (var x) = []
  reads_in (cell x at) = reads_in_all at ++ read_of x at ∷ []
  reads_in (un op a) = reads_in a
  reads_in (bin op a b) = reads_in a ++ reads_in b
  reads_in (cast a) = reads_in a
  reads_in (test rel a b) = reads_in a ++ reads_in b
  reads_in (umin a b) = reads_in a ++ reads_in b
  reads_in (umax a b) = reads_in a ++ reads_in b
  reads_in (least a b) = []
  reads_in (greatest a b) = []
  reads_in (widen a) = reads_in a
  reads_in (big high low) = []

  pub reads_in_all : PlainExprs → List Reach
  reads_in_all no_exprs = []
  reads_in_all (more_exprs e es) = reads_in e ++ reads_in_all es

abbrev pub old_cell : Option BinOp → Word → PlainExprs → List Reach
old_cell None x at = []
old_cell (Some op) x at = read_of x at ∷ []

-- the index cells of the target, the old cell of a compound assignment, the reads of the right side, and the write
abbrev pub accesses_of : PlainExpr → Option BinOp → PlainExpr → List Reach
accesses_of (cell x at) op e = reads_in_all at ++ (old_cell op x at ++ (reads_in e ++ record { name = x; at = at; writes = true } ∷ []))
accesses_of _ op e = reads_in e

-- ---- the sites of a unit

abbrev pub placed : ℕ → ℕ → List Outer → List Reach → List Site
placed statement position os [] = []
placed statement position os (r ∷ rs) = record { statement = statement; position = position; outers = os; reach = r } ∷ placed statement (suc position) os rs

-- how many items there are: loops, `if`s and assignments
abbrev mutual
  pub count : PlainStmt → ℕ
  count (loop x lo rel hi body) = suc (count_all body)
  count (choice ts first other) = suc (count_all first + count_all other)
  count (assign target op e) = 1
  count (table x len) = 1
  count begin = 0
  count (check x extent a) = 1
  count verdict = 1

  pub count_all : PlainStmts → ℕ
  count_all no_stmts = 0
  count_all (more_stmts s ss) = count s + count_all ss

-- how many loops
abbrev mutual
  pub loops : PlainStmt → ℕ
  loops (loop x lo rel hi body) = suc (loops_all body)
  loops (choice ts first other) = loops_all first + loops_all other
  loops (assign target op e) = 0
  loops (table x len) = 0
  loops begin = 0
  loops (check x extent a) = 0
  loops verdict = 0

  pub loops_all : PlainStmts → ℕ
  loops_all no_stmts = 0
  loops_all (more_stmts s ss) = loops s + loops_all ss

-- in text order, the statement having the number n, and the variable of the next loop the number v
abbrev mutual
  pub sites : PlainStmt → ℕ → ℕ → List Outer → List Site
  sites (loop x lo rel hi body) n v os = sites_all body (suc n) (suc v) (outer_loop n v (record { name = x; lo = lo; rel = rel; hi = hi }) ∷ os)
  sites (choice ts first other) n v os =
      sites_all first (suc n) v (outer_branch n true ts ∷ os) ++ sites_all other (suc n + count_all first) (v + loops_all first) (outer_branch n false ts ∷ os)
  sites (assign target op e) n v os = placed n 0 os (accesses_of target op e)
  sites (table x len) n v os = []
  sites begin n v os = []
  sites (check x extent a) n v os = []
  sites verdict n v os = []

  pub sites_all : PlainStmts → ℕ → ℕ → List Outer → List Site
  sites_all no_stmts n v os = []
  sites_all (more_stmts s ss) n v os = sites s n v os ++ sites_all ss (n + count s) (v + loops s) os

-- Variables are numbered from 1: the `int64_t` parameters in declared order, then the loops in text order.
abbrev pub first_variable : PlainUnit → ℕ
first_variable u = suc (length (ints_in u.params))

-- The number of a site is its place in this list, from 0.
abbrev pub all_sites : PlainUnit → List Site
all_sites u = sites_all u.body 1 (first_variable u) []

abbrev pub is_of : Word → Site → Bool
is_of x s = bytes_eq x s.reach.name

-- those of an array
abbrev pub sites_of : PlainUnit → Word → List Site
sites_of u x = filter (is_of x) (all_sites u)

abbrev pub is_read : Site → Bool
is_read s = not s.reach.writes

abbrev pub is_write : Site → Bool
is_write s = s.reach.writes
