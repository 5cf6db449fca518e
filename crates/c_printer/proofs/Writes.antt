-- Else branches and indentation.
use Rattle.std.proofs.Common.{◌≡◌, ◌↔◌, ◌++◌, ◌∷◌, [], List, ℕ, zero, suc, ◌+◌, add-one, ap, refl, codes, Bool, true, false, IsTrue}
use Rattle.c_tree.specs.Grammar.Tokens.{Text}
use Rattle.c_tree.specs.Layout.{Scope, indent}
use Rattle.c_tree.specs.Plain.{PlainStmts, no_stmts, more_stmts}
use Rattle.c_tree.specs.Trees.{stmts}
use Rattle.c_tree.specs.declared.stmt.Stmt.{Stmt}
use Rattle.c_printer.specs.Before.{block_before, else_before}

-- an `else` that isn't empty
pub else_some : (sc : Scope) (depth : ℕ) (ss : PlainStmts) → (ss ≡ no_stmts → ⊥) → (rest : Text) → codes " else {\n" ++ block_before sc depth ss (codes "\n" ++ rest) ≡ else_before sc depth ss rest
else_some sc depth no_stmts some rest = absurd (some refl)
else_some sc depth (more_stmts s ss) some rest = refl

-- a list that a test finds not empty has statements
pub some_stmts : (empty : Bool) (ss : List Stmt) → (IsTrue empty ↔ (ss ≡ [])) → empty ≡ false → stmts ss ≡ no_stmts → ⊥
some_stmts true ss tested is none = cc
some_stmts false [] tested is none = cc (tested.1 refl)
some_stmts false (s ∷ ss) tested is none = cc

indent-suc : (k : ℕ) (rest : Text) → indent k ++ (codes "  " ++ rest) ≡ indent (suc k) ++ rest
indent-suc zero rest = refl
indent-suc (suc k) rest = ap (λ y. codes "  " ++ y) (indent-suc k rest)

-- a level more at the end
pub indent_more : (k : ℕ) (rest : Text) → indent k ++ (codes "  " ++ rest) ≡ indent (k + 1) ++ rest
indent_more k rest = rw add-one (indent-suc k rest)
