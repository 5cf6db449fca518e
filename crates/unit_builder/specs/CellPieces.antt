-- The pieces of the initial cells of arrays.
use Rattle.std.specs.Prelude.{ℕ, List}
use Rattle.c_tree.specs.Plain.{PlainExprs, PlainStmt}
use Rattle.c_tree.specs.Trees.{stmts}
use Rattle.c_tree.specs.declared.stmt.Stmt.{Stmt}
use Rattle.c_tree.specs.declared.unit.Param.{Param}
use Rattle.instrumentation.specs.Passes.{cell_piece}
use Rattle.instrumentation.specs.Pieces.{initial_piece}
use Rattle.text_parts.specs.Built.{pieces_in}
use Rattle.text_parts.specs.Numbered.{numbers}

-- the piece of the initial cells of each array
unfoldable pub initial_of : List Param → List Stmt → ℕ → PlainExprs → List PlainStmt
initial_of ps whole = initial_piece (numbers ps) (stmts whole)

-- the pass of the initial cells of each array
unfoldable pub passes_of : List Param → List Stmt → ℕ → PlainExprs → List PlainStmt
passes_of ps whole = cell_piece (numbers ps) (stmts whole)

-- the pieces of arrays by number, whatever their extents
abbrev pub initial_pieces : List (List Stmt) → ℕ → PlainExprs → List PlainStmt
initial_pieces pieces a extents = pieces_in pieces a
