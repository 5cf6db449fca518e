-- Which token lists are statements, and of which lists of plain statements.
use Rattle.std.specs.Prelude.{◌≡◌, ℕ, suc, ◌+◌, ◌^◌, ◌≤◌, ◌<◌, max, cond, Bool, true, false, List, ◌∷◌, Option, Some, None}
use Rattle.c_tree.specs.declared.expr.Rel.{Rel}
use Rattle.c_tree.specs.declared.expr.Rel.TheVariants as r
use Rattle.c_tree.specs.declared.expr.BinOp.{BinOp}
use Rattle.c_tree.specs.declared.expr.BinOp.TheVariants as o
use Rattle.c_tree.specs.Plain.{Word, PlainExpr, var, cell, PlainExprs, PlainTest, PlainStmt, loop, choice, assign, check, PlainStmts, no_stmts, more_stmts}
use Rattle.c_tree.specs.declared.symbol.Symbol.{Symbol}
use Rattle.c_tree.specs.declared.symbol.Symbol.TheVariants as s
use Rattle.c_tree.specs.Grammar.Lexemes as t
use Rattle.c_tree.specs.Grammar.Lexemes.{Lexeme}
use Rattle.c_tree.specs.Grammar.Tables.{rel_mark}
use Rattle.c_tree.specs.Grammar.Expressions.{IsLow, IsCells, height}
use Rattle.c_tree.specs.Grammar.Conditions.{IsCond}

abbrev pub chain : PlainStmts → PlainStmts → PlainStmts
chain no_stmts bs = bs
chain (more_stmts a rest) bs = more_stmts a (chain rest bs)

abbrev pub one : PlainStmt → PlainStmts
one a = more_stmts a no_stmts

-- What a mark of assignment does before it assigns.
abbrev pub set_op : Symbol → Option (Option BinOp)
set_op s.Assign = Some None
set_op s.AddAssign = Some (Some o.Add)
set_op s.SubAssign = Some (Some o.Sub)
set_op s.MulAssign = Some (Some o.Mul)
set_op s.AndAssign = Some (Some o.And)
set_op s.OrAssign = Some (Some o.Or)
set_op s.XorAssign = Some (Some o.Xor)
set_op _ = None

-- A loop's bound is `<` or `<=`.
abbrev pub bounds : Rel → Bool
bounds r.Lt = true
bounds r.Le = true
bounds _ = false

-- `v++`, `++v` and `v += 1`
pub data IsStep : Word → List Lexeme → List Lexeme → Type 0 where
  behind : {rest : List Lexeme} (v : Word) → IsStep v (t.name v ∷ t.symbol s.PlusPlus ∷ rest) rest
  before : {rest : List Lexeme} (v : Word) → IsStep v (t.symbol s.PlusPlus ∷ t.name v ∷ rest) rest
  by_one : {rest : List Lexeme} (v : Word) → IsStep v (t.name v ∷ t.symbol s.AddAssign ∷ t.number 1 ∷ rest) rest

-- the target of an assignment
pub data IsPlace : Bool → ℕ → List Lexeme → PlainExpr → List Lexeme → Type 0 where
  of_name : {p : Bool} {m : ℕ} {rest : List Lexeme} (x : Word) → IsPlace p m (t.name x ∷ rest) (var x) rest
  of_cell : {p : Bool} {m : ℕ} {ts rest : List Lexeme} {us : PlainExprs} (x : Word) → IsCells p ts us rest → height (cell x us) ≤ m → IsPlace p m (t.name x ∷ ts) (cell x us) rest

-- The token list begins with a statement, which stands for the list of statements, and the last list is the rest.
-- The first test says whether the text is printed, the number how high an expression may be. The second test says whether the statement ends in an `if` without
-- `else`: none such stands before an `else`, which so belongs to the nearest `if`.
mutual
  pub data IsStmt : Bool → ℕ → Bool → List Lexeme → PlainStmts → List Lexeme → Type 0 where
    empty : {p : Bool} {m : ℕ} {rest : List Lexeme} → IsStmt p m false (t.symbol s.Semicolon ∷ rest) no_stmts rest
    block : {p : Bool} {m : ℕ} {ts rest : List Lexeme} {us : PlainStmts} → IsStmts p m ts us (t.symbol s.CloseBrace ∷ rest) → IsStmt p m false (t.symbol s.OpenBrace ∷ ts) us rest
    assigned : {p : Bool} {m : ℕ} {ts value rest : List Lexeme} {x u : PlainExpr} (mark : Symbol) (op : Option BinOp) → set_op mark ≡ Some op → IsPlace p m ts x (t.symbol mark ∷ value) → IsLow p m 1 value u (t.symbol s.Semicolon ∷ rest)
        → IsStmt p m false ts (one (assign x op u)) rest
    for : {p : Bool} {m : ℕ} {open_end : Bool} {ts second step body rest : List Lexeme} {lo hi : PlainExpr} {us : PlainStmts} (v : Word) (rel : Rel) → bounds rel ≡ true
        → IsLow p m 1 ts lo (t.symbol s.Semicolon ∷ t.name v ∷ t.symbol (rel_mark rel) ∷ second) → IsLow p m 1 second hi (t.symbol s.Semicolon ∷ step) → IsStep v step (t.symbol s.CloseParen ∷ body) → IsStmt p m open_end body us rest
        → IsStmt p m open_end (t.symbol s.For ∷ t.symbol s.OpenParen ∷ t.symbol s.Int64 ∷ t.name v ∷ t.symbol s.Assign ∷ ts) (one (loop v lo rel hi us)) rest
    when : {p : Bool} {m : ℕ} {open_end : Bool} {ts first rest : List Lexeme} {cs : List PlainTest} {us : PlainStmts} → IsCond p m ts cs (t.symbol s.CloseParen ∷ first)
        → IsStmt p m open_end first us rest → IsStmt p m true (t.symbol s.If ∷ t.symbol s.OpenParen ∷ ts) (one (choice cs us no_stmts)) rest
    whether : {p : Bool} {m : ℕ} {open_end : Bool} {ts first other rest : List Lexeme} {cs : List PlainTest} {us vs : PlainStmts} → IsCond p m ts cs (t.symbol s.CloseParen ∷ first)
        → IsStmt p m false first us (t.symbol s.Else ∷ other) → IsStmt p m open_end other vs rest → IsStmt p m open_end (t.symbol s.If ∷ t.symbol s.OpenParen ∷ ts) (one (choice cs us vs)) rest
    checked : {m : ℕ} {ts rest : List Lexeme} {u : PlainExpr} (x : Word) (a : ℕ) → a < 48 → IsLow true m 1 ts u (t.symbol s.CloseParen ∷ t.symbol s.CloseParen ∷ t.symbol s.OpenBrace ∷ t.symbol s.Return ∷ t.number (2 ^ (16 + a)) ∷ t.symbol s.Semicolon ∷ t.symbol s.CloseBrace ∷ rest)
        → IsStmt true m false (t.symbol s.If ∷ t.symbol s.OpenParen ∷ t.name x ∷ t.symbol s.GreaterEqual ∷ t.symbol s.OpenParen ∷ t.symbol s.Uint64 ∷ t.symbol s.CloseParen ∷ t.symbol s.OpenParen ∷ ts) (one (check x u a)) rest

  -- any number of statements
  pub data IsStmts : Bool → ℕ → List Lexeme → PlainStmts → List Lexeme → Type 0 where
    end : {p : Bool} {m : ℕ} {rest : List Lexeme} → IsStmts p m rest no_stmts rest
    more : {p : Bool} {m : ℕ} {open_end : Bool} {ts after rest : List Lexeme} {us vs : PlainStmts} → IsStmt p m open_end ts us after → IsStmts p m after vs rest → IsStmts p m ts (chain us vs) rest

abbrev mutual
  pub stmt_height : PlainStmt → ℕ
  stmt_height (loop v lo rel hi body) = suc (stmts_height body)
  stmt_height (choice cs us vs) = suc (max (stmts_height us) (stmts_height vs))
  stmt_height _ = 1

  pub stmts_height : PlainStmts → ℕ
  stmts_height no_stmts = 0
  stmts_height (more_stmts a rest) = max (stmt_height a) (stmts_height rest)

-- how high a statement may be, in a printed text and in a source
abbrev pub stmt_limit : Bool → ℕ
stmt_limit printed = cond printed 160 64
