-- The instrumented statements of a source: each access once, each total brought up to date, and each index word compared with its extent before the cell that it names is read.
use Rattle.std.specs.Prelude.{ℕ, ◌+◌, List, [], ◌∷◌, ◌++◌, Option, Some, None, max}
use Rattle.c_tree.specs.Plain.{Word, PlainExpr, lit, var, cell, un, bin, cast, test, umin, umax, least, greatest, widen, big, PlainExprs, no_exprs, more_exprs, PlainStmt, loop, choice, assign, table, begin, check, verdict, PlainStmts, no_stmts, more_stmts}
use Rattle.c_tree.specs.Trees.{stmts_of}
use Rattle.c_tree.specs.Instances.{sites, sites_all}
use Rattle.c_tree.specs.declared.expr.BinOp.{BinOp}
use Rattle.c_tree.specs.declared.expr.BinOp.TheVariants.{Add, Mul}
use Rattle.instrumentation.specs.Subscripts.{by_cell, indices_in}
use Rattle.instrumentation.specs.Names.{register, result, count, definition_total, use_total}

-- how many cells an expression reads, index cells among them
abbrev pub reads_in : PlainExpr → ℕ
reads_in (lit n) = 0
reads_in (var x) = 0
reads_in (cell x at) = indices_in at + 1
reads_in (un op a) = reads_in a
reads_in (bin op a b) = reads_in a + reads_in b
reads_in (cast a) = reads_in a
reads_in (test rel a b) = reads_in a + reads_in b
reads_in (umin a b) = reads_in a + reads_in b
reads_in (umax a b) = reads_in a + reads_in b
reads_in (least a b) = 0
reads_in (greatest a b) = 0
reads_in (widen a) = 0
reads_in (big high low) = 0

-- a cell is read once, into the word of number j, and added to its array's use total
abbrev pub load_text : ℕ → Word → PlainExprs → ℕ → List PlainStmt
load_text a x at j = assign (var (register j)) None (cell x at) ∷ assign (var (use_total a)) (Some Add) (widen (var (register j))) ∷ []

-- the index cells of a cell's subscripts, each read once, into the words from j on
abbrev pub index_loads : (Word → ℕ) → PlainExprs → ℕ → List PlainStmt
index_loads number no_exprs j = []
index_loads number (more_exprs e es) j = by_cell e (λ x at. load_text (number x) x at j ++ index_loads number es (j + 1)) (index_loads number es j)

-- each of these words against the extent of its dimension of array a
abbrev pub index_checks : ℕ → PlainExprs → PlainExprs → ℕ → List PlainStmt
index_checks a no_exprs ns j = []
index_checks a (more_exprs e es) no_exprs j = []
index_checks a (more_exprs e es) (more_exprs n ns) j = by_cell e (λ x at. check (register j) n a ∷ index_checks a es ns (j + 1)) (index_checks a es ns j)

-- the subscripts with these words in place of the index cells
abbrev pub by_words : PlainExprs → ℕ → PlainExprs
by_words no_exprs j = no_exprs
by_words (more_exprs e es) j = by_cell e (λ x at. more_exprs (var (register j)) (by_words es (j + 1))) (more_exprs e (by_words es j))

-- a read of a cell: first its index cells, then the checks, and last the cell itself
abbrev pub read_text : (Word → ℕ) → (Word → PlainExprs) → Word → PlainExprs → ℕ → List PlainStmt
read_text number extents x at j = index_loads number at j ++ (index_checks (number x) at (extents x) j ++ load_text (number x) x (by_words at j) (j + indices_in at))

-- the loads of an expression from left to right, into the words from j on
abbrev pub loads_text : (Word → ℕ) → (Word → PlainExprs) → PlainExpr → ℕ → List PlainStmt
loads_text number extents (lit n) j = []
loads_text number extents (var x) j = []
loads_text number extents (cell x at) j = read_text number extents x at j
loads_text number extents (un op a) j = loads_text number extents a j
loads_text number extents (bin op a b) j = loads_text number extents a j ++ loads_text number extents b (j + reads_in a)
loads_text number extents (cast a) j = loads_text number extents a j
loads_text number extents (test rel a b) j = loads_text number extents a j ++ loads_text number extents b (j + reads_in a)
loads_text number extents (umin a b) j = loads_text number extents a j ++ loads_text number extents b (j + reads_in a)
loads_text number extents (umax a b) j = loads_text number extents a j ++ loads_text number extents b (j + reads_in a)
loads_text number extents (least a b) j = []
loads_text number extents (greatest a b) j = []
loads_text number extents (widen a) j = []
loads_text number extents (big high low) j = []

-- the expression over the words from j on
abbrev pub pure : PlainExpr → ℕ → PlainExpr
pure (lit n) j = lit n
pure (var x) j = var x
pure (cell x at) j = var (register (j + indices_in at))
pure (un op a) j = un op (pure a j)
pure (bin op a b) j = bin op (pure a j) (pure b (j + reads_in a))
pure (cast a) j = cast (pure a j)
pure (test rel a b) j = test rel (pure a j) (pure b (j + reads_in a))
pure (umin a b) j = umin (pure a j) (pure b (j + reads_in a))
pure (umax a b) j = umax (pure a j) (pure b (j + reads_in a))
pure (least a b) j = least a b
pure (greatest a b) j = greatest a b
pure (widen a) j = widen a
pure (big high low) j = big high low

-- what an assignment gives its target, the old value being read first in a compound one
abbrev pub full : PlainExpr → Option BinOp → PlainExpr → PlainExpr
full t None e = e
full t (Some op) e = bin op t e

-- the stored word times its count is added to the definition total
abbrev pub add_text : ℕ → List PlainStmt
add_text a = assign (var (definition_total a)) (Some Add) (bin Mul (widen (var result)) (var count)) ∷ []

-- a store: the piece sets the count of the definition that it makes
abbrev pub store_text : ℕ → List PlainStmt → Word → PlainExprs → PlainExpr → List PlainStmt
store_text a piece x at e = assign (var result) None e ∷ assign (cell x at) None (var result) ∷ (piece ++ add_text a)

abbrev pub assigned_text : (Word → ℕ) → (Word → PlainExprs) → List PlainStmt → PlainExpr → PlainExpr → List PlainStmt
assigned_text number extents piece (var x) e = loads_text number extents e 0 ++ assign (var x) None (pure e 0) ∷ []
assigned_text number extents piece (cell x at) e = loads_text number extents e 0 ++ store_text (number x) piece x at (pure e 0)
assigned_text number extents piece _ e = []

-- the instrumented statements, the assignments being numbered in text order from k on; a piece for each number
abbrev mutual
  pub instrument : (Word → ℕ) → (Word → PlainExprs) → (ℕ → List PlainStmt) → ℕ → PlainStmt → List PlainStmt
  instrument number extents pieces k (loop x lo rel hi body) = loop x lo rel hi (stmts_of (instrument_all number extents pieces k body)) ∷ []
  instrument number extents pieces k (choice ts first other) =
      choice ts (stmts_of (instrument_all number extents pieces k first)) (stmts_of (instrument_all number extents pieces (k + sites_all first) other)) ∷ []
  instrument number extents pieces k (assign t op e) = assigned_text number extents (pieces k) t (full t op e)
  instrument number extents pieces k (table x len) = []
  instrument number extents pieces k begin = []
  instrument number extents pieces k (check x extent a) = []
  instrument number extents pieces k verdict = []

  pub instrument_all : (Word → ℕ) → (Word → PlainExprs) → (ℕ → List PlainStmt) → ℕ → PlainStmts → List PlainStmt
  instrument_all number extents pieces k no_stmts = []
  instrument_all number extents pieces k (more_stmts s ss) = instrument number extents pieces k s ++ instrument_all number extents pieces (k + sites s) ss

-- how many words the loads of one assignment need at most
abbrev mutual
  pub registers : PlainStmt → ℕ
  registers (loop x lo rel hi body) = registers_all body
  registers (choice ts first other) = max (registers_all first) (registers_all other)
  registers (assign t op e) = reads_in (full t op e)
  registers (table x len) = 0
  registers begin = 0
  registers (check x extent a) = 0
  registers verdict = 0

  pub registers_all : PlainStmts → ℕ
  registers_all no_stmts = 0
  registers_all (more_stmts s ss) = max (registers s) (registers_all ss)
