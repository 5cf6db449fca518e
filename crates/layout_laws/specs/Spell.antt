-- How a unit is spelled in tokens, before the tokens of a rest: as its layout spells it in bytes.
use Rattle.std.specs.Prelude.{ℕ, ◌+◌, ◌^◌, Bool, true, false, ◌||◌, List, [], ◌∷◌, ◌++◌, Option, Some, None, ℤ, pos, negsuc, suc, codes}
use Rattle.c_tree.specs.declared.expr.BinOp.{BinOp}
use Rattle.c_tree.specs.declared.expr.BinOp.TheVariants as o
use Rattle.c_tree.specs.declared.symbol.Symbol.{Symbol}
use Rattle.c_tree.specs.declared.symbol.Symbol.TheVariants as s
use Rattle.c_tree.specs.Layout.{is_bin, is_un, is_loose}
use Rattle.c_tree.specs.Names.{arrays_in}
use Rattle.c_tree.specs.Plain.{Word, PlainExpr, lit, var, cell, un, bin, cast, test, umin, umax, least, greatest, widen, big, PlainExprs, no_exprs, more_exprs, PlainTest, PlainStmt, loop, choice, assign, table, begin, check, verdict, PlainStmts, no_stmts, more_stmts, PlainParam, int_param, array_param, PlainUnit}
use Rattle.c_tree.specs.Grammar.Lexemes as t
use Rattle.c_tree.specs.Grammar.Lexemes.{Lexeme}
use Rattle.c_tree.specs.Grammar.Tables.{mark, un_mark, rel_mark}
use Rattle.c_tree.specs.Grammar.Heads.{calloc_tokens, table_tokens, zero_tokens, begin_tokens}
use Rattle.c_tree.specs.Grammar.Units.{verdict_tokens}

-- ---- expressions

-- in parentheses, or not
abbrev pub enclosed : Bool → (List Lexeme → List Lexeme) → List Lexeme → List Lexeme
enclosed true inner rest = t.symbol s.OpenParen ∷ inner (t.symbol s.CloseParen ∷ rest)
enclosed false inner rest = inner rest

abbrev mutual
  pub spell : PlainExpr → List Lexeme → List Lexeme
  spell (lit n) rest = t.number n ∷ rest
  spell (var x) rest = t.name x ∷ rest
  spell (cell x us) rest = t.name x ∷ spell_cells us rest
  spell (un op a) rest = t.symbol (un_mark op) ∷ enclosed (is_bin a || is_un a) (spell a) rest
  spell (bin op a b) rest = enclosed (is_bin a) (spell a) (t.symbol (mark op) ∷ enclosed (is_bin b) (spell b) rest)
  spell (cast a) rest = t.symbol s.OpenParen ∷ t.symbol s.Uint64 ∷ t.symbol s.CloseParen ∷ enclosed (is_bin a) (spell a) rest
  spell (test rel a b) rest = t.symbol s.OpenParen ∷ t.symbol s.Uint64 ∷ t.symbol s.CloseParen ∷ t.symbol s.OpenParen ∷ enclosed (is_loose a) (spell a) (t.symbol (rel_mark rel) ∷ enclosed (is_loose b) (spell b) (t.symbol s.CloseParen ∷ rest))
  spell (umin a b) rest = t.symbol s.Umin ∷ t.symbol s.OpenParen ∷ spell a (t.symbol s.Comma ∷ spell b (t.symbol s.CloseParen ∷ rest))
  spell (umax a b) rest = t.symbol s.Umax ∷ t.symbol s.OpenParen ∷ spell a (t.symbol s.Comma ∷ spell b (t.symbol s.CloseParen ∷ rest))
  spell (least a b) rest = t.symbol s.BalMin ∷ t.symbol s.OpenParen ∷ spell a (t.symbol s.Comma ∷ spell b (t.symbol s.CloseParen ∷ rest))
  spell (greatest a b) rest = t.symbol s.BalMax ∷ t.symbol s.OpenParen ∷ spell a (t.symbol s.Comma ∷ spell b (t.symbol s.CloseParen ∷ rest))
  spell (widen a) rest = t.symbol s.OpenParen ∷ t.symbol s.Unsigned ∷ t.symbol s.Int128 ∷ t.symbol s.CloseParen ∷ enclosed (is_bin a) (spell a) rest
  spell (big high low) rest = t.symbol s.BalWide ∷ t.symbol s.OpenParen ∷ t.number high ∷ t.symbol s.Comma ∷ t.number low ∷ t.symbol s.CloseParen ∷ rest

  pub spell_cells : PlainExprs → List Lexeme → List Lexeme
  spell_cells no_exprs rest = rest
  spell_cells (more_exprs u us) rest = t.symbol s.OpenBracket ∷ spell u (t.symbol s.CloseBracket ∷ spell_cells us rest)

-- ---- statements

-- The mark of an assignment. The grammar has none for the other operators.
abbrev pub set_mark : Option BinOp → Symbol
set_mark None = s.Assign
set_mark (Some o.Add) = s.AddAssign
set_mark (Some o.Sub) = s.SubAssign
set_mark (Some o.Mul) = s.MulAssign
set_mark (Some o.And) = s.AndAssign
set_mark (Some o.Or) = s.OrAssign
set_mark (Some o.Xor) = s.XorAssign
set_mark (Some _) = s.Assign

abbrev pub spell_test : PlainTest → List Lexeme → List Lexeme
spell_test c rest = enclosed (is_loose c.1) (spell c.1) (t.symbol (rel_mark c.0) ∷ enclosed (is_loose c.2) (spell c.2) rest)

abbrev pub spell_more_tests : List PlainTest → List Lexeme → List Lexeme
spell_more_tests [] rest = rest
spell_more_tests (c ∷ cs) rest = t.symbol s.AndAnd ∷ spell_test c (spell_more_tests cs rest)

abbrev pub spell_tests : List PlainTest → List Lexeme → List Lexeme
spell_tests [] rest = rest
spell_tests (c ∷ cs) rest = spell_test c (spell_more_tests cs rest)

-- The list has the arrays.
abbrev mutual
  pub spell_stmt : List Word → PlainStmt → List Lexeme → List Lexeme
  spell_stmt xs (loop v lo rel hi body) rest =
      t.symbol s.For ∷ t.symbol s.OpenParen ∷ t.symbol s.Int64 ∷ t.name v ∷ t.symbol s.Assign ∷ spell lo (t.symbol s.Semicolon ∷ t.name v ∷ t.symbol (rel_mark rel)
      ∷ spell hi (t.symbol s.Semicolon ∷ t.name v ∷ t.symbol s.PlusPlus ∷ t.symbol s.CloseParen ∷ t.symbol s.OpenBrace ∷ spell_stmts xs body (t.symbol s.CloseBrace ∷ rest)))
  spell_stmt xs (choice cs us vs) rest = t.symbol s.If ∷ t.symbol s.OpenParen ∷ spell_tests cs (t.symbol s.CloseParen ∷ t.symbol s.OpenBrace ∷ spell_stmts xs us (t.symbol s.CloseBrace ∷ spell_else xs vs rest))
  spell_stmt xs (assign x op u) rest = spell x (t.symbol (set_mark op) ∷ spell u (t.symbol s.Semicolon ∷ rest))
  spell_stmt xs (table x u) rest = t.symbol s.Uint64 ∷ t.symbol s.Star ∷ t.name x ∷ (calloc_tokens ++ spell u (table_tokens x ++ rest))
  spell_stmt xs begin rest = begin_tokens ++ rest
  spell_stmt xs (check x u a) rest =
      t.symbol s.If ∷ t.symbol s.OpenParen ∷ t.name x ∷ t.symbol s.GreaterEqual ∷ t.symbol s.OpenParen ∷ t.symbol s.Uint64 ∷ t.symbol s.CloseParen ∷ t.symbol s.OpenParen ∷ spell u (t.symbol s.CloseParen ∷ t.symbol s.CloseParen ∷ t.symbol s.OpenBrace
      ∷ t.symbol s.Return ∷ t.number (2 ^ (16 + a)) ∷ t.symbol s.Semicolon ∷ t.symbol s.CloseBrace ∷ rest)
  spell_stmt xs verdict rest = verdict_tokens xs rest

  pub spell_else : List Word → PlainStmts → List Lexeme → List Lexeme
  spell_else xs no_stmts rest = rest
  spell_else xs (more_stmts u us) rest = t.symbol s.Else ∷ t.symbol s.OpenBrace ∷ spell_stmt xs u (spell_stmts xs us (t.symbol s.CloseBrace ∷ rest))

  pub spell_stmts : List Word → PlainStmts → List Lexeme → List Lexeme
  spell_stmts xs no_stmts rest = rest
  spell_stmts xs (more_stmts u us) rest = spell_stmt xs u (spell_stmts xs us rest)

-- ---- heads

abbrev pub spell_int : ℤ → List Lexeme → List Lexeme
spell_int (pos n) rest = t.number n ∷ rest
spell_int (negsuc n) rest = t.symbol s.Minus ∷ t.number (suc n) ∷ rest

abbrev pub spell_ranges : List (Word × ℤ × ℤ) → List Lexeme → List Lexeme
spell_ranges [] rest = rest
spell_ranges (r ∷ rs) rest = t.symbol s.Directive ∷ t.name (codes "range") ∷ t.name r.0 ∷ spell_int r.1 (spell_int r.2 (t.symbol s.EndLine ∷ spell_ranges rs rest))

abbrev pub spell_param : PlainParam → List Lexeme → List Lexeme
spell_param (int_param x) rest = t.symbol s.Int64 ∷ t.name x ∷ rest
spell_param (array_param x false us) rest = t.symbol s.Uint64 ∷ t.name x ∷ spell_cells us rest
spell_param (array_param x true us) rest = t.symbol s.Const ∷ t.symbol s.Uint64 ∷ t.name x ∷ spell_cells us rest

abbrev pub spell_more_params : List PlainParam → List Lexeme → List Lexeme
spell_more_params [] rest = rest
spell_more_params (x ∷ xs) rest = t.symbol s.Comma ∷ spell_param x (spell_more_params xs rest)

abbrev pub spell_params : List PlainParam → List Lexeme → List Lexeme
spell_params [] rest = rest
spell_params (x ∷ xs) rest = spell_param x (spell_more_params xs rest)

abbrev pub spell_words : List (Word × ℕ) → List Lexeme → List Lexeme
spell_words [] rest = rest
spell_words (w ∷ ws) rest = t.symbol s.Uint64 ∷ t.name w.0 ∷ t.symbol s.Assign ∷ t.number w.1 ∷ t.symbol s.Semicolon ∷ spell_words ws rest

abbrev pub spell_wides : List Word → List Lexeme → List Lexeme
spell_wides [] rest = rest
spell_wides (x ∷ xs) rest = t.symbol s.Unsigned ∷ t.symbol s.Int128 ∷ t.name x ∷ (zero_tokens ++ spell_wides xs rest)

abbrev pub spell_version : Option ℕ → List Lexeme → List Lexeme
spell_version None rest = rest
spell_version (Some n) rest = t.symbol s.Preamble ∷ t.symbol s.Directive ∷ t.name (codes "version") ∷ t.number n ∷ t.symbol s.EndLine ∷ rest

abbrev pub result_sign : Option ℕ → Symbol
result_sign None = s.Void
result_sign (Some n) = s.Uint64

-- the tokens of a unit
abbrev pub spell_unit : PlainUnit → List Lexeme
spell_unit u =
    spell_version u.version (spell_ranges u.ranges (t.symbol (result_sign u.version) ∷ t.name u.name ∷ t.symbol s.OpenParen ∷ spell_params u.params (t.symbol s.CloseParen ∷ t.symbol s.OpenBrace
    ∷ spell_words u.words (spell_wides u.wides (spell_stmts (arrays_in u.params) u.body (t.symbol s.CloseBrace ∷ []))))))
