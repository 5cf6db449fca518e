-- The pieces of a source. Each sets the count of a definition: from the tables of its array where this is inspected, and else by a counting pass.
use Rattle.std.specs.Prelude.{ℕ, zero, suc, ◌+◌, if◌then◌else◌, max, List, [], ◌∷◌, ◌++◌, slice_index_or}
use Rattle.c_tree.specs.Plain.{Word, PlainExpr, lit, var, cell, un, bin, cast, test, umin, umax, least, greatest, widen, big, PlainExprs, no_exprs, more_exprs, PlainStmt, loop, choice, assign, table, begin, check, verdict, PlainStmts, no_stmts, more_stmts}
use Rattle.c_tree.specs.Instances.{sites, sites_all}
use Rattle.instrumentation.specs.Names.{written, index_word}
use Rattle.instrumentation.specs.Inspects.{inspects_all}
use Rattle.instrumentation.specs.Passes.{write_piece, cell_piece}
use Rattle.instrumentation.specs.Tables.{build, initial, at_write}

-- for an initial cell of array a, at the coordinates of the prologue
abbrev pub initial_piece : (Word → ℕ) → PlainStmts → ℕ → PlainExprs → List PlainStmt
initial_piece number whole a extents = if inspects_all number a whole then initial a extents else cell_piece number whole a extents

-- for assignment k with this target: none where it stores into no array
abbrev pub site_piece : (Word → ℕ) → (Word → PlainExprs) → PlainStmts → ℕ → PlainExpr → List PlainStmt
site_piece number extents whole k (cell x at) = if inspects_all number (number x) whole then at_write (number x) (extents x) else write_piece number whole k (cell x at)
site_piece number extents whole k _ = []

-- the pieces of all assignments, in text order from number k on
abbrev mutual
  pub site_pieces : (Word → ℕ) → (Word → PlainExprs) → PlainStmts → ℕ → PlainStmt → List (List PlainStmt)
  site_pieces number extents whole k (loop x lo rel hi body) = site_pieces_all number extents whole k body
  site_pieces number extents whole k (choice ts first other) =
      site_pieces_all number extents whole k first ++ site_pieces_all number extents whole (k + sites_all first) other
  site_pieces number extents whole k (assign t op e) = site_piece number extents whole k t ∷ []
  site_pieces number extents whole k (table x len) = []
  site_pieces number extents whole k begin = []
  site_pieces number extents whole k (check x extent a) = []
  site_pieces number extents whole k verdict = []

  pub site_pieces_all : (Word → ℕ) → (Word → PlainExprs) → PlainStmts → ℕ → PlainStmts → List (List PlainStmt)
  site_pieces_all number extents whole k no_stmts = []
  site_pieces_all number extents whole k (more_stmts s ss) = site_pieces number extents whole k s ++ site_pieces_all number extents whole (k + sites s) ss

-- the piece of a number
abbrev pub piece_at : List (List PlainStmt) → ℕ → List PlainStmt
piece_at pieces k = slice_index_or pieces k []

-- the tables of the inspected ones among the arrays from number a on
abbrev pub builds : (Word → ℕ) → PlainStmts → ℕ → List (Word × PlainExprs) → List PlainStmt
builds number whole a [] = []
builds number whole a (x ∷ more) = (if inspects_all number a whole then build number whole a x.1 else []) ++ builds number whole (suc a) more

-- ---- their words, declared with the literal 0

-- for each inspected array the number of its writes so far
abbrev pub written_words : (Word → ℕ) → PlainStmts → ℕ → List (Word × PlainExprs) → List (Word × ℕ)
written_words number whole a [] = []
written_words number whole a (x ∷ more) = (if inspects_all number a whole then (written a, 0) ∷ [] else []) ++ written_words number whole (suc a) more

abbrev pub dimensions : PlainExprs → ℕ
dimensions no_exprs = 0
dimensions (more_exprs e es) = suc (dimensions es)

-- the most dimensions of an inspected array
abbrev pub widest : (Word → ℕ) → PlainStmts → ℕ → List (Word × PlainExprs) → ℕ
widest number whole a [] = 0
widest number whole a (x ∷ more) = max (if inspects_all number a whole then dimensions x.1 else 0) (widest number whole (suc a) more)

abbrev pub index_words_from : ℕ → ℕ → List (Word × ℕ)
index_words_from d zero = []
index_words_from d (suc n) = (index_word d, 0) ∷ index_words_from (suc d) n

abbrev pub table_words : (Word → ℕ) → PlainStmts → List (Word × PlainExprs) → List (Word × ℕ)
table_words number whole decls = index_words_from 0 (widest number whole 0 decls) ++ written_words number whole 0 decls
