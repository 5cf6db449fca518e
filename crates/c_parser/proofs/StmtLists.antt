-- Lists of statements put together.
use Rattle.std.proofs.Common.{◌≡◌, List, [], ◌∷◌, ◌++◌, refl, ap, ◌∙◌}
use Rattle.c_tree.specs.Plain.{PlainStmt, PlainStmts, no_stmts, more_stmts, begin, verdict}
use Rattle.c_tree.specs.Trees.{stmt, stmts}
use Rattle.c_tree.specs.Grammar.Statements.{chain, one}
use Rattle.c_tree.specs.declared.stmt.Stmt.{Stmt}

pub stmts_join : (xs ys : List Stmt) → stmts (xs ++ ys) ≡ chain (stmts xs) (stmts ys)
stmts_join [] ys = refl
stmts_join (x ∷ xs) ys = ap (more_stmts (stmt x)) (stmts_join xs ys)

chain_again : (us vs ws : PlainStmts) → chain (chain us vs) ws ≡ chain us (chain vs ws)
chain_again no_stmts vs ws = refl
chain_again (more_stmts a us) vs ws = ap (more_stmts a) (chain_again us vs ws)

-- `begin` between two lists, and a verdict at the end
pub stmts_halves : (xs ys : List Stmt) (b v : Stmt) → stmt b ≡ begin → stmt v ≡ verdict → stmts (((xs ++ b ∷ []) ++ ys) ++ v ∷ []) ≡ chain (stmts xs) (more_stmts begin (chain (stmts ys) (one verdict)))
stmts_halves xs ys b v is_begin is_verdict =
    stmts_join ((xs ++ b ∷ []) ++ ys) (v ∷ []) ∙ ap (λ (us : PlainStmts). chain us (stmts (v ∷ []))) (stmts_join (xs ++ b ∷ []) ys ∙ ap (λ (us : PlainStmts). chain us (stmts ys)) (stmts_join xs (b ∷ [])))
    ∙ chain_again (chain (stmts xs) (stmts (b ∷ []))) (stmts ys) (stmts (v ∷ [])) ∙ chain_again (stmts xs) (stmts (b ∷ [])) (chain (stmts ys) (stmts (v ∷ [])))
    ∙ ap (λ (a : PlainStmt). chain (stmts xs) (more_stmts a (chain (stmts ys) (stmts (v ∷ []))))) is_begin
    ∙ ap (λ (a : PlainStmt). chain (stmts xs) (more_stmts begin (chain (stmts ys) (one a)))) is_verdict
