-- What is built, as plain trees.
use Rattle.std.specs.Prelude.{◌≡◌, ℕ, ◌++◌, List, [], map, slice_index_or}
use Rattle.c_tree.specs.Plain.{PlainStmt}
use Rattle.c_tree.specs.Trees.{stmt}
use Rattle.c_tree.specs.declared.stmt.Stmt.{Stmt}

-- these statements were added
abbrev pub Adds : List Stmt → List Stmt → List PlainStmt → Type 0
Adds old new more = map stmt new ≡ map stmt old ++ more

-- the pieces by number
abbrev pub pieces_in : List (List Stmt) → ℕ → List PlainStmt
pieces_in pieces k = map stmt (slice_index_or pieces k [])
