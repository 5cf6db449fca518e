-- Ways to turn an instrumented text: other assignments in place of each of its own, or other pieces.
use Rattle.std.specs.Prelude.{ℕ, List, [], ◌∷◌, ◌++◌, Option}
use Rattle.c_tree.specs.Plain.{Word, PlainExpr, PlainExprs, PlainStmt, loop, choice, assign, table, begin, check, verdict, PlainStmts, no_stmts, more_stmts, PlainUnit}
use Rattle.c_tree.specs.Trees.{stmts_of}
use Rattle.c_tree.specs.declared.expr.BinOp.{BinOp}
use Rattle.instrumentation.specs.Body.{instrument_all}
use Rattle.instrumentation.specs.Pieces.{initial_piece, site_pieces_all, piece_at, builds}
use Rattle.instrumentation.specs.Prologue.{prologue_text}
use Rattle.instrumentation.specs.Guarded.{extents_of, arrays_with_extents, guarded}
use Rattle.instrumentation_laws.specs.RegularUnits.{number_for}

-- ---- assignments

-- what stands in place of an assignment
abbrev pub Turning : Type 0
Turning = PlainExpr → Option BinOp → PlainExpr → List PlainStmt

abbrev mutual
  pub turned : Turning → PlainStmt → List PlainStmt
  turned f (loop x lo rel hi body) = loop x lo rel hi (stmts_of (turned_all f body)) ∷ []
  turned f (choice ts first other) = choice ts (stmts_of (turned_all f first)) (stmts_of (turned_all f other)) ∷ []
  turned f (assign t op e) = f t op e
  turned f (table x len) = table x len ∷ []
  turned f begin = begin ∷ []
  turned f (check x extent k) = check x extent k ∷ []
  turned f verdict = verdict ∷ []

  pub turned_all : Turning → PlainStmts → List PlainStmt
  turned_all f no_stmts = []
  turned_all f (more_stmts s ss) = turned f s ++ turned_all f ss

abbrev pub unchanged : Turning
unchanged t op e = assign t op e ∷ []

-- the instrumented unit with its assignments turned
abbrev pub with_assignments : Turning → PlainUnit → PlainUnit
with_assignments f u = record (guarded u) { body = stmts_of (turned_all f (guarded u).body) }

-- the instrumented unit with these statements
abbrev pub with_body : List PlainStmt → PlainUnit → PlainUnit
with_body text u = record (guarded u) { body = stmts_of text }

-- ---- checks

-- what stands in place of a check
abbrev pub CheckTurning : Type 0
CheckTurning = Word → PlainExpr → ℕ → List PlainStmt

abbrev mutual
  pub checked : CheckTurning → PlainStmt → List PlainStmt
  checked f (loop x lo rel hi body) = loop x lo rel hi (stmts_of (checked_all f body)) ∷ []
  checked f (choice ts first other) = choice ts (stmts_of (checked_all f first)) (stmts_of (checked_all f other)) ∷ []
  checked f (assign t op e) = assign t op e ∷ []
  checked f (table x len) = table x len ∷ []
  checked f begin = begin ∷ []
  checked f (check x extent k) = f x extent k
  checked f verdict = verdict ∷ []

  pub checked_all : CheckTurning → PlainStmts → List PlainStmt
  checked_all f no_stmts = []
  checked_all f (more_stmts s ss) = checked f s ++ checked_all f ss

-- the instrumented unit with its checks turned
abbrev pub with_checks : CheckTurning → PlainUnit → PlainUnit
with_checks f u = with_body (checked_all f (guarded u).body) u

-- a check behind the next statement
abbrev pub behind : PlainStmt → List PlainStmt → List PlainStmt
behind c [] = c ∷ []
behind c (s ∷ ss) = s ∷ c ∷ ss

abbrev mutual
  pub late : PlainStmt → List PlainStmt → List PlainStmt
  late (loop x lo rel hi body) rest = loop x lo rel hi (stmts_of (late_all body)) ∷ rest
  late (choice ts first other) rest = choice ts (stmts_of (late_all first)) (stmts_of (late_all other)) ∷ rest
  late (assign t op e) rest = assign t op e ∷ rest
  late (table x len) rest = table x len ∷ rest
  late begin rest = begin ∷ rest
  late (check x extent k) rest = behind (check x extent k) rest
  late verdict rest = verdict ∷ rest

  pub late_all : PlainStmts → List PlainStmt
  late_all no_stmts = []
  late_all (more_stmts s ss) = late s (late_all ss)

-- ---- pieces

-- the pieces of the instrumented unit: those of the initial cells of an array, and that of an assignment
abbrev pub cell_pieces : PlainUnit → ℕ → PlainExprs → List PlainStmt
cell_pieces u = initial_piece (number_for u) u.body

abbrev pub site_pieces : PlainUnit → ℕ → List PlainStmt
site_pieces u = piece_at (site_pieces_all (number_for u) (extents_of u.params) u.body 0 u.body)

-- and its tables
abbrev pub tables_of : PlainUnit → List PlainStmt
tables_of u = builds (number_for u) u.body 0 (arrays_with_extents u.params)

-- its parts in order, with these in place of its own
abbrev pub cells_text : (ℕ → PlainExprs → List PlainStmt) → PlainUnit → List PlainStmt
cells_text cells u = prologue_text cells 0 (arrays_with_extents u.params)

abbrev pub source_text : (ℕ → List PlainStmt) → PlainUnit → List PlainStmt
source_text pieces u = begin ∷ (instrument_all (number_for u) (extents_of u.params) pieces 0 u.body ++ verdict ∷ [])

-- the instrumented unit with these pieces
abbrev pub with_pieces : (ℕ → PlainExprs → List PlainStmt) → (ℕ → List PlainStmt) → PlainUnit → PlainUnit
with_pieces cells pieces u = with_body (tables_of u ++ (cells_text cells u ++ source_text pieces u)) u

-- with its tables turned
abbrev pub with_tables : (List PlainStmt → List PlainStmt) → PlainUnit → PlainUnit
with_tables f u = with_body (f (tables_of u) ++ (cells_text (cell_pieces u) u ++ source_text (site_pieces u) u)) u

-- and with each of its pieces turned
abbrev pub with_turned_pieces : (List PlainStmt → List PlainStmt) → (List PlainStmt → List PlainStmt) → PlainUnit → PlainUnit
with_turned_pieces f g u = with_pieces (λ k extents. f (cell_pieces u k extents)) (λ k. g (site_pieces u k)) u
