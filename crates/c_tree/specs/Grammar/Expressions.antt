-- Which token lists are expressions, and of which trees.
use Rattle.std.specs.Prelude.{◌≡◌, ℕ, suc, ◌≤◌, max, Bool, true, cond, List, ◌∷◌}
use Rattle.c_tree.specs.declared.expr.Rel.{Rel}
use Rattle.c_tree.specs.declared.expr.UnOp.{UnOp}
use Rattle.c_tree.specs.declared.expr.BinOp.{BinOp}
use Rattle.c_tree.specs.Plain.{Word, PlainExpr, lit, var, cell, un, bin, cast, test, umin, umax, least, greatest, widen, big, PlainExprs, no_exprs, more_exprs}
use Rattle.c_tree.specs.declared.symbol.Symbol.TheVariants as s
use Rattle.c_tree.specs.Grammar.Lexemes as t
use Rattle.c_tree.specs.Grammar.Lexemes.{Lexeme}
use Rattle.c_tree.specs.Grammar.Tables.{level, mark, un_mark, rel_mark, Call, call_word, called, allowed}

-- The token list begins with an expression of the tree, of this level or a tighter one, and the second list is the rest.
-- Levels 1 to 6 are those of the operators, and 7 is that of a unary operator, a cast and a primary. The test says whether the text is a printed one.
mutual
  pub data IsExpr : Bool → ℕ → List Lexeme → PlainExpr → List Lexeme → Type 0 where
    tighter : {p : Bool} {l : ℕ} {ts rest : List Lexeme} {u : PlainExpr} → IsExpr p (suc l) ts u rest → IsExpr p l ts u rest
    binary : {p : Bool} {ts after rest : List Lexeme} {a b : PlainExpr} → (op : BinOp) → IsExpr p (level op) ts a (t.symbol (mark op) ∷ after) → IsExpr p (suc (level op)) after b rest → IsExpr p (level op) ts (bin op a b) rest
    unary : {p : Bool} {ts rest : List Lexeme} {u : PlainExpr} → (op : UnOp) → IsExpr p 7 ts u rest → IsExpr p 7 (t.symbol (un_mark op) ∷ ts) (un op u) rest
    as_word : {p : Bool} {ts rest : List Lexeme} {u : PlainExpr} → IsExpr p 7 ts u rest → IsExpr p 7 (t.symbol s.OpenParen ∷ t.symbol s.Uint64 ∷ t.symbol s.CloseParen ∷ ts) (cast u) rest
    compared : {p : Bool} {ts after rest : List Lexeme} {a b : PlainExpr} → (rel : Rel) → IsExpr p 4 ts a (t.symbol (rel_mark rel) ∷ after) → IsExpr p 4 after b (t.symbol s.CloseParen ∷ rest)
        → IsExpr p 7 (t.symbol s.OpenParen ∷ t.symbol s.Uint64 ∷ t.symbol s.CloseParen ∷ t.symbol s.OpenParen ∷ ts) (test rel a b) rest
    as_wide : {ts rest : List Lexeme} {u : PlainExpr} → IsExpr true 7 ts u rest → IsExpr true 7 (t.symbol s.OpenParen ∷ t.symbol s.Unsigned ∷ t.symbol s.Int128 ∷ t.symbol s.CloseParen ∷ ts) (widen u) rest
    wide_literal : {rest : List Lexeme} (high low : ℕ) → IsExpr true 7 (t.symbol s.BalWide ∷ t.symbol s.OpenParen ∷ t.number high ∷ t.symbol s.Comma ∷ t.number low ∷ t.symbol s.CloseParen ∷ rest) (big high low) rest
    literal : {p : Bool} {rest : List Lexeme} (n : ℕ) → IsExpr p 7 (t.number n ∷ rest) (lit n) rest
    variable : {p : Bool} {rest : List Lexeme} (x : Word) → IsExpr p 7 (t.name x ∷ rest) (var x) rest
    cell_of : {p : Bool} {ts rest : List Lexeme} {us : PlainExprs} (x : Word) → IsCells p ts us rest → IsExpr p 7 (t.name x ∷ ts) (cell x us) rest
    enclosed : {p : Bool} {ts rest : List Lexeme} {u : PlainExpr} → IsExpr p 1 ts u (t.symbol s.CloseParen ∷ rest) → IsExpr p 7 (t.symbol s.OpenParen ∷ ts) u rest
    call : {p : Bool} {ts after rest : List Lexeme} {a b : PlainExpr} → (c : Call) → allowed p c ≡ true → IsExpr p 1 ts a (t.symbol s.Comma ∷ after) → IsExpr p 1 after b (t.symbol s.CloseParen ∷ rest)
        → IsExpr p 7 (t.symbol (call_word c) ∷ t.symbol s.OpenParen ∷ ts) (called c a b) rest

  -- one subscript or more
  pub data IsCells : Bool → List Lexeme → PlainExprs → List Lexeme → Type 0 where
    last : {p : Bool} {ts rest : List Lexeme} {u : PlainExpr} → IsExpr p 1 ts u (t.symbol s.CloseBracket ∷ rest) → IsCells p (t.symbol s.OpenBracket ∷ ts) (more_exprs u no_exprs) rest
    next : {p : Bool} {ts after rest : List Lexeme} {u : PlainExpr} {us : PlainExprs} → IsExpr p 1 ts u (t.symbol s.CloseBracket ∷ after) → IsCells p after us rest → IsCells p (t.symbol s.OpenBracket ∷ ts) (more_exprs u us) rest

abbrev mutual
  pub height : PlainExpr → ℕ
  height (lit n) = 1
  height (var x) = 1
  height (cell x us) = suc (heights us)
  height (un op a) = suc (height a)
  height (bin op a b) = suc (max (height a) (height b))
  height (cast a) = suc (height a)
  height (test rel a b) = suc (max (height a) (height b))
  height (umin a b) = suc (max (height a) (height b))
  height (umax a b) = suc (max (height a) (height b))
  height (least a b) = suc (max (height a) (height b))
  height (greatest a b) = suc (max (height a) (height b))
  height (widen a) = suc (height a)
  height (big high low) = 1

  pub heights : PlainExprs → ℕ
  heights no_exprs = 0
  heights (more_exprs u us) = max (height u) (heights us)

-- how high an expression may be, in a printed text and in a source
abbrev pub limit : Bool → ℕ
limit printed = cond printed 256 64

-- an expression of at most this height
pub record IsLow (p : Bool) (m l : ℕ) (ts : List Lexeme) (u : PlainExpr) (rest : List Lexeme) : Type 0 where
  pub reads : IsExpr p l ts u rest
  pub low : height u ≤ m
