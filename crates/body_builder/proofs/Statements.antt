-- Lists of statements and their plain forms.
use Rattle.std.proofs.Common.{◌≡◌, List, [], ◌∷◌, map, refl, sym, ap, ◌∙◌}
use Rattle.c_tree.specs.Plain.{PlainStmt, PlainStmts, no_stmts, more_stmts}
use Rattle.c_tree.specs.Trees.{stmt, stmts, stmts_of}
use Rattle.c_tree.specs.declared.stmt.Stmt.{Stmt}

list_of : PlainStmts → List PlainStmt
list_of no_stmts = []
list_of (more_stmts s ss) = s ∷ list_of ss

list_of-stmts_of : (ss : List PlainStmt) → list_of (stmts_of ss) ≡ ss
unfolding list_of
list_of-stmts_of [] = refl
list_of-stmts_of (s ∷ ss) = ap (λ l. s ∷ l) (list_of-stmts_of ss)

-- lists with the same plain form have the same plain statements
pub same_statements : (xs ys : List Stmt) → stmts xs ≡ stmts ys → map stmt xs ≡ map stmt ys
same_statements xs ys e = sym (list_of-stmts_of (map stmt xs)) ∙ ap list_of e ∙ list_of-stmts_of (map stmt ys)
