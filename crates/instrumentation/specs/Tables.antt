-- Tables for an array with irregular reads. Its definitions are numbered: the initial one of a cell by the cell's row-major
-- number, and the writes, in the order in which they are made, from the number of cells on. The first table has for each cell by
-- how much the number of its current definition is greater than the cell's own; the second counts the reads of each definition.
use Rattle.std.specs.Prelude.{ℕ, suc, if◌then◌else◌, nat_eq, List, [], ◌∷◌, ◌++◌, length, Some, None}
use Rattle.c_tree.specs.Plain.{Word, PlainExpr, lit, var, cell, un, bin, cast, test, umin, umax, least, greatest, widen, big, PlainExprs, no_exprs, more_exprs, PlainStmt, loop, choice, assign, table, begin, check, verdict, PlainStmts, no_stmts, more_stmts}
use Rattle.c_tree.specs.Trees.{stmts_of}
use Rattle.c_tree.specs.declared.expr.BinOp.TheVariants.{Add, Sub, Mul}
use Rattle.instrumentation.specs.Names.{count, pass_variable, written, index_word, current, counts}
use Rattle.instrumentation.specs.Subscripts.{by_cell}
use Rattle.instrumentation.specs.Body.{full}
use Rattle.instrumentation.specs.Passes.{renamed, renamed_all, renamed_tests, coordinates_from, set_word}

-- ---- numbers of cells, as words

abbrev pub one : PlainExpr → PlainExprs
one e = more_exprs e no_exprs

-- how many cells these extents make
abbrev pub cells_of : PlainExprs → PlainExpr
cells_of no_exprs = lit 1
cells_of (more_exprs n ns) = bin Mul (cast n) (cells_of ns)

-- the row-major number of the cell at these words
abbrev pub row_of : PlainExprs → List PlainExpr → PlainExpr
row_of no_exprs cs = lit 0
row_of (more_exprs n ns) [] = lit 0
row_of (more_exprs n ns) (c ∷ cs) = bin Add (bin Mul c (cells_of ns)) (row_of ns cs)

-- the coordinates of a cell in a walk: signed ones as words, and the words of its index cells, subscript d being the first
abbrev pub words_at : List Word → ℕ → PlainExprs → List PlainExpr
words_at xs d no_exprs = []
words_at xs d (more_exprs e es) = by_cell e (λ x at. var (index_word d)) (cast (renamed xs e)) ∷ words_at xs (suc d) es

-- ---- the walks: a copy of the source's loops, with these statements for the reads of an assignment and for its target

abbrev mutual
  pub walk : (List Word → PlainExpr → List PlainStmt) → (List Word → PlainExpr → List PlainStmt) → List Word → PlainStmt → List PlainStmt
  walk reads writes xs (loop x lo rel hi body) = loop (pass_variable (length xs)) (renamed xs lo) rel (renamed xs hi) (stmts_of (walk_all reads writes (x ∷ xs) body)) ∷ []
  walk reads writes xs (choice ts first other) = choice (renamed_tests xs ts) (stmts_of (walk_all reads writes xs first)) (stmts_of (walk_all reads writes xs other)) ∷ []
  walk reads writes xs (assign t op e) = reads xs (full t op e) ++ writes xs t
  walk reads writes xs (table x len) = []
  walk reads writes xs begin = []
  walk reads writes xs (check x extent a) = []
  walk reads writes xs verdict = []

  pub walk_all : (List Word → PlainExpr → List PlainStmt) → (List Word → PlainExpr → List PlainStmt) → List Word → PlainStmts → List PlainStmt
  walk_all reads writes xs no_stmts = []
  walk_all reads writes xs (more_stmts s ss) = walk reads writes xs s ++ walk_all reads writes xs ss

-- ---- single accesses, of array a with these extents

-- the index cells of a cell, each compared with its extent
abbrev pub index_words : List Word → ℕ → PlainExprs → List PlainStmt
index_words xs d no_exprs = []
index_words xs d (more_exprs e es) = by_cell e (λ x at. assign (var (index_word d)) None (cell x (renamed_all xs at)) ∷ index_words xs (suc d) es) (index_words xs (suc d) es)

abbrev pub word_checks : ℕ → ℕ → PlainExprs → PlainExprs → List PlainStmt
word_checks a d no_exprs ns = []
word_checks a d (more_exprs e es) no_exprs = []
word_checks a d (more_exprs e es) (more_exprs n ns) = by_cell e (λ x at. check (index_word d) n a ∷ word_checks a (suc d) es ns) (word_checks a (suc d) es ns)

-- a read counts for the current definition of its cell
abbrev pub count_current : ℕ → PlainExpr → PlainStmt
count_current a row = assign (cell (counts a) (one (bin Add row (cell (current a) (one row))))) (Some Add) (lit 1)

abbrev pub inspect_cell : (Word → ℕ) → ℕ → PlainExprs → List Word → Word → PlainExprs → List PlainStmt
inspect_cell number a extents xs x at =
    if nat_eq (number x) a
    then index_words xs 0 at ++ (word_checks a 0 at extents ++ count_current a (row_of extents (words_at xs 0 at)) ∷ [])
    else []

abbrev pub inspect_indices : (Word → ℕ) → ℕ → PlainExprs → List Word → PlainExprs → List PlainStmt
inspect_indices number a extents xs no_exprs = []
inspect_indices number a extents xs (more_exprs e es) =
    by_cell e (λ x at. inspect_cell number a extents xs x at ++ inspect_indices number a extents xs es) (inspect_indices number a extents xs es)

abbrev pub inspect_reads : (Word → ℕ) → ℕ → PlainExprs → List Word → PlainExpr → List PlainStmt
inspect_reads number a extents xs (lit n) = []
inspect_reads number a extents xs (var x) = []
inspect_reads number a extents xs (cell x at) = inspect_indices number a extents xs at ++ inspect_cell number a extents xs x at
inspect_reads number a extents xs (un op e) = inspect_reads number a extents xs e
inspect_reads number a extents xs (bin op e g) = inspect_reads number a extents xs e ++ inspect_reads number a extents xs g
inspect_reads number a extents xs (cast e) = inspect_reads number a extents xs e
inspect_reads number a extents xs (test rel e g) = inspect_reads number a extents xs e ++ inspect_reads number a extents xs g
inspect_reads number a extents xs (umin e g) = inspect_reads number a extents xs e ++ inspect_reads number a extents xs g
inspect_reads number a extents xs (umax e g) = inspect_reads number a extents xs e ++ inspect_reads number a extents xs g
inspect_reads number a extents xs (least e g) = []
inspect_reads number a extents xs (greatest e g) = []
inspect_reads number a extents xs (widen e) = []
inspect_reads number a extents xs (big high low) = []

-- a write is counted
abbrev pub one_more : ℕ → PlainStmt
one_more a = assign (var (written a)) (Some Add) (lit 1)

-- and is the current definition of its cell
abbrev pub set_current : ℕ → PlainExprs → PlainExpr → PlainStmt
set_current a extents row = assign (cell (current a) (one row)) None (bin Sub (bin Add (cells_of extents) (var (written a))) row)

-- the first walk finds how many writes there are
abbrev pub no_reads : List Word → PlainExpr → List PlainStmt
no_reads xs e = []

abbrev pub count_writes : (Word → ℕ) → ℕ → List Word → PlainExpr → List PlainStmt
count_writes number a xs e = by_cell e (λ x at. if nat_eq (number x) a then one_more a ∷ [] else []) []

-- the second follows the definitions
abbrev pub number_writes : (Word → ℕ) → ℕ → PlainExprs → List Word → PlainExpr → List PlainStmt
number_writes number a extents xs e = by_cell e (λ x at. if nat_eq (number x) a then set_current a extents (row_of extents (words_at xs 0 at)) ∷ one_more a ∷ [] else []) []

-- ---- the three pieces

abbrev pub build : (Word → ℕ) → PlainStmts → ℕ → PlainExprs → List PlainStmt
build number whole a extents =
    set_word (written a) 0 ∷ (walk_all no_reads (count_writes number a) [] whole
    ++ (table (current a) (cells_of extents) ∷ table (counts a) (bin Add (cells_of extents) (var (written a))) ∷ set_word (written a) 0
    ∷ (walk_all (inspect_reads number a extents) (number_writes number a extents) [] whole
    ++ set_word (written a) 0 ∷ [])))

abbrev pub words_from : PlainExprs → List PlainExpr
words_from no_exprs = []
words_from (more_exprs e es) = cast e ∷ words_from es

-- the count of the initial definition of the cell at the coordinates of the prologue
abbrev pub initial : ℕ → PlainExprs → List PlainStmt
initial a extents = assign (var count) None (widen (cell (counts a) (one (row_of extents (words_from (coordinates_from 0 extents)))))) ∷ []

-- that of the next write
abbrev pub at_write : ℕ → PlainExprs → List PlainStmt
at_write a extents = assign (var count) None (widen (cell (counts a) (one (bin Add (cells_of extents) (var (written a)))))) ∷ one_more a ∷ []
