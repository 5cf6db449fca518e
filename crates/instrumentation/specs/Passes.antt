-- Counting passes: a copy of the source's loops that counts the reads of a cell between one definition of it and the next.
use Rattle.std.specs.Prelude.{ℕ, suc, ◌+◌, if◌then◌else◌, nat_eq, bytes_eq, List, [], ◌∷◌, ◌++◌, length, slice_index_or, Option, Some, None}
use Rattle.c_tree.specs.Plain.{Word, PlainExpr, lit, var, cell, un, bin, cast, test, umin, umax, least, greatest, widen, big, PlainExprs, no_exprs, more_exprs, PlainTest, PlainStmt, loop, choice, assign, table, begin, check, verdict, PlainStmts, no_stmts, more_stmts}
use Rattle.c_tree.specs.Trees.{stmts_of}
use Rattle.c_tree.specs.Instances.{sites, sites_all}
use Rattle.c_tree.specs.declared.expr.Rel.TheVariants.{Eq}
use Rattle.c_tree.specs.declared.expr.BinOp.TheVariants.{Add}
use Rattle.instrumentation.specs.Names.{count, coordinate, pass_variable, active, counter}
use Rattle.instrumentation.specs.Subscripts.{by_cell}
use Rattle.instrumentation.specs.Body.{full}

-- ---- the copy's names

-- The variable of a loop of the source, in the copy. The first of the names is the innermost loop's.
abbrev pub renamed_name : List Word → Word → Word
renamed_name [] x = x
renamed_name (y ∷ ys) x = if bytes_eq y x then pass_variable (length ys) else renamed_name ys x

abbrev mutual
  pub renamed : List Word → PlainExpr → PlainExpr
  renamed xs (lit n) = lit n
  renamed xs (var x) = var (renamed_name xs x)
  renamed xs (cell x at) = cell x (renamed_all xs at)
  renamed xs (un op a) = un op (renamed xs a)
  renamed xs (bin op a b) = bin op (renamed xs a) (renamed xs b)
  renamed xs (cast a) = cast (renamed xs a)
  renamed xs (test rel a b) = test rel (renamed xs a) (renamed xs b)
  renamed xs (umin a b) = umin (renamed xs a) (renamed xs b)
  renamed xs (umax a b) = umax (renamed xs a) (renamed xs b)
  renamed xs (least a b) = least (renamed xs a) (renamed xs b)
  renamed xs (greatest a b) = greatest (renamed xs a) (renamed xs b)
  renamed xs (widen a) = widen (renamed xs a)
  renamed xs (big high low) = big high low

  pub renamed_all : List Word → PlainExprs → PlainExprs
  renamed_all xs no_exprs = no_exprs
  renamed_all xs (more_exprs e es) = more_exprs (renamed xs e) (renamed_all xs es)

abbrev pub renamed_tests : List Word → List PlainTest → List PlainTest
renamed_tests xs [] = []
renamed_tests xs (t ∷ ts) = (t.0, renamed xs t.1, renamed xs t.2) ∷ renamed_tests xs ts

-- ---- what is counted

-- the definitions of one cell: the array's number, and the cell's subscripts at the place of the pass
pub record Target : Type 0 where
  pub array : ℕ
  pub at : PlainExprs

-- two cells of one array are one, subscript by subscript
abbrev pub same_cell : PlainExprs → PlainExprs → List PlainTest
same_cell no_exprs es = []
same_cell (more_exprs d ds) no_exprs = []
same_cell (more_exprs d ds) (more_exprs e es) = (Eq, d, e) ∷ same_cell ds es

abbrev pub set_word : Word → ℕ → PlainStmt
set_word x n = assign (var x) None (lit n)

-- a read of the cell counts where the definition stands in it
abbrev pub count_cell : (Word → ℕ) → Target → List Word → Word → PlainExprs → List PlainStmt
count_cell number target xs x at =
    if nat_eq (number x) target.array
    then choice (same_cell (renamed_all xs at) target.at) (stmts_of (assign (var counter) (Some Add) (var active) ∷ [])) no_stmts ∷ []
    else []

-- the index cells of a cell's subscripts
abbrev pub count_indices : (Word → ℕ) → Target → List Word → PlainExprs → List PlainStmt
count_indices number target xs no_exprs = []
count_indices number target xs (more_exprs e es) = by_cell e (λ x at. count_cell number target xs x at ++ count_indices number target xs es) (count_indices number target xs es)

-- the reads of an expression, from left to right, index cells before the cell that they name
abbrev pub count_reads : (Word → ℕ) → Target → List Word → PlainExpr → List PlainStmt
count_reads number target xs (lit n) = []
count_reads number target xs (var x) = []
count_reads number target xs (cell x at) = count_indices number target xs at ++ count_cell number target xs x at
count_reads number target xs (un op a) = count_reads number target xs a
count_reads number target xs (bin op a b) = count_reads number target xs a ++ count_reads number target xs b
count_reads number target xs (cast a) = count_reads number target xs a
count_reads number target xs (test rel a b) = count_reads number target xs a ++ count_reads number target xs b
count_reads number target xs (umin a b) = count_reads number target xs a ++ count_reads number target xs b
count_reads number target xs (umax a b) = count_reads number target xs a ++ count_reads number target xs b
count_reads number target xs (least a b) = []
count_reads number target xs (greatest a b) = []
count_reads number target xs (widen a) = []
count_reads number target xs (big high low) = []

-- the copy's loops stand at the values of the source's
abbrev pub same_instance : List Word → List PlainTest
same_instance [] = []
same_instance (x ∷ xs) = (Eq, var (pass_variable (length xs)), var x) ∷ same_instance xs

-- a write of the counted assignment: its definition is the one that is counted where the loops stand at its values
abbrev pub own_write : List Word → List PlainStmt
own_write [] = set_word active 1 ∷ []
own_write (x ∷ xs) = choice (same_instance (x ∷ xs)) (stmts_of (set_word active 1 ∷ [])) (stmts_of (set_word active 0 ∷ [])) ∷ []

-- Which definition is counted: that of an assignment, by its number, or the initial one.
abbrev pub write_text : Option ℕ → List Word → ℕ → List PlainStmt
write_text None xs k = set_word active 0 ∷ []
write_text (Some site) xs k = if nat_eq site k then own_write xs else set_word active 0 ∷ []

abbrev pub count_write : (Word → ℕ) → Target → Option ℕ → List Word → ℕ → PlainExpr → List PlainStmt
count_write number target site xs k (cell x at) =
    if nat_eq (number x) target.array
    then choice (same_cell (renamed_all xs at) target.at) (stmts_of (write_text site xs k)) no_stmts ∷ []
    else []
count_write number target site xs k _ = []

-- ---- the copy

abbrev mutual
  pub copied : (Word → ℕ) → Target → Option ℕ → List Word → ℕ → PlainStmt → List PlainStmt
  copied number target site xs k (loop x lo rel hi body) =
      loop (pass_variable (length xs)) (renamed xs lo) rel (renamed xs hi) (stmts_of (copied_all number target site (x ∷ xs) k body)) ∷ []
  copied number target site xs k (choice ts first other) =
      choice (renamed_tests xs ts) (stmts_of (copied_all number target site xs k first)) (stmts_of (copied_all number target site xs (k + sites_all first) other)) ∷ []
  copied number target site xs k (assign t op e) = count_reads number target xs (full t op e) ++ count_write number target site xs k t
  copied number target site xs k (table x len) = []
  copied number target site xs k begin = []
  copied number target site xs k (check x extent a) = []
  copied number target site xs k verdict = []

  pub copied_all : (Word → ℕ) → Target → Option ℕ → List Word → ℕ → PlainStmts → List PlainStmt
  copied_all number target site xs k no_stmts = []
  copied_all number target site xs k (more_stmts s ss) =
      copied number target site xs k s ++ copied_all number target site xs (k + sites s) ss

-- whether the definition stands in its cell as the pass begins
abbrev pub standing : Option ℕ → ℕ
standing None = 1
standing (Some site) = 0

-- the pass over a whole source
abbrev pub pass_text : (Word → ℕ) → PlainStmts → Target → Option ℕ → List PlainStmt
pass_text number whole target site =
    set_word active (standing site) ∷ set_word counter 0 ∷ (copied_all number target site [] 0 whole ++ assign (var count) None (widen (var counter)) ∷ [])

-- the piece of an assignment: none where it stores into no array
abbrev pub write_piece : (Word → ℕ) → PlainStmts → ℕ → PlainExpr → List PlainStmt
write_piece number whole k (cell x at) = pass_text number whole (record { array = number x; at = at }) (Some k)
write_piece number whole k _ = []

-- a cell by the coordinates of the prologue, one for each extent
abbrev pub coordinates_from : ℕ → PlainExprs → PlainExprs
coordinates_from d no_exprs = no_exprs
coordinates_from d (more_exprs e es) = more_exprs (var (coordinate d)) (coordinates_from (suc d) es)

-- the piece of the initial cells of an array
abbrev pub cell_piece : (Word → ℕ) → PlainStmts → ℕ → PlainExprs → List PlainStmt
cell_piece number whole a extents = pass_text number whole (record { array = a; at = coordinates_from 0 extents }) None
