-- The parts of a unit's head, and the tables of a printed text: which token lists they are.
use Rattle.std.specs.Prelude.{ℕ, zero, suc, ℤ, pos, negsuc, ◌^◌, ◌<◌, ◌≤◌, Bool, true, false, List, [], ◌∷◌, ◌++◌, codes}
use Rattle.c_tree.specs.Plain.{Word, PlainExpr, PlainExprs, no_exprs, more_exprs, PlainStmt, table, PlainParam, int_param, array_param}
use Rattle.c_tree.specs.declared.symbol.Symbol.TheVariants as s
use Rattle.c_tree.specs.Grammar.Lexemes as t
use Rattle.c_tree.specs.Grammar.Lexemes.{Lexeme}
use Rattle.c_tree.specs.Grammar.Expressions.{IsLow}

abbrev pub opposite : ℕ → ℤ
opposite zero = pos zero
opposite (suc n) = negsuc n

-- within -2^63 to 2^63 - 1
pub data IsInt : List Lexeme → ℤ → List Lexeme → Type 0 where
  positive : {rest : List Lexeme} (n : ℕ) → n < 2 ^ 63 → IsInt (t.number n ∷ rest) (pos n) rest
  negative : {rest : List Lexeme} (n : ℕ) → n ≤ 2 ^ 63 → IsInt (t.symbol s.Minus ∷ t.number n ∷ rest) (opposite n) rest

pub data IsRange : List Lexeme → Word × ℤ × ℤ → List Lexeme → Type 0 where
  range : {ts second rest : List Lexeme} {lo hi : ℤ} (x : Word) → IsInt ts lo second → IsInt second hi (t.symbol s.EndLine ∷ rest) → IsRange (t.symbol s.Directive ∷ t.name (codes "range") ∷ t.name x ∷ ts) (x, lo, hi) rest

-- one to three dimensions: the number is how many more there may be
pub data IsDims : Bool → ℕ → ℕ → List Lexeme → PlainExprs → List Lexeme → Type 0 where
  one_dim : {p : Bool} {m k : ℕ} {ts rest : List Lexeme} {u : PlainExpr} → IsLow p m 1 ts u (t.symbol s.CloseBracket ∷ rest) → IsDims p m k (t.symbol s.OpenBracket ∷ ts) (more_exprs u no_exprs) rest
  next_dim : {p : Bool} {m k : ℕ} {ts after rest : List Lexeme} {u : PlainExpr} {us : PlainExprs} → IsLow p m 1 ts u (t.symbol s.CloseBracket ∷ after) → IsDims p m k after us rest → IsDims p m (suc k) (t.symbol s.OpenBracket ∷ ts) (more_exprs u us) rest

pub data IsParam : Bool → ℕ → List Lexeme → PlainParam → List Lexeme → Type 0 where
  number : {p : Bool} {m : ℕ} {rest : List Lexeme} (x : Word) → IsParam p m (t.symbol s.Int64 ∷ t.name x ∷ rest) (int_param x) rest
  array : {p : Bool} {m : ℕ} {ts rest : List Lexeme} {us : PlainExprs} (x : Word) → IsDims p m 2 ts us rest → IsParam p m (t.symbol s.Uint64 ∷ t.name x ∷ ts) (array_param x false us) rest
  constant : {p : Bool} {m : ℕ} {ts rest : List Lexeme} {us : PlainExprs} (x : Word) → IsDims p m 2 ts us rest → IsParam p m (t.symbol s.Const ∷ t.symbol s.Uint64 ∷ t.name x ∷ ts) (array_param x true us) rest

-- ---- printed texts

-- #pragma balance version 1
abbrev pub version_tokens : List Lexeme
version_tokens = t.symbol s.Directive ∷ t.name (codes "version") ∷ t.number 1 ∷ t.symbol s.EndLine ∷ []

-- #pragma balance begin
abbrev pub begin_tokens : List Lexeme
begin_tokens = t.symbol s.Directive ∷ t.name (codes "begin") ∷ t.symbol s.EndLine ∷ []

-- = 0 ;
abbrev pub zero_tokens : List Lexeme
zero_tokens = t.symbol s.Assign ∷ t.number 0 ∷ t.symbol s.Semicolon ∷ []

pub data IsWide : List Lexeme → Word → List Lexeme → Type 0 where
  wide : {rest : List Lexeme} (x : Word) → IsWide (t.symbol s.Unsigned ∷ t.symbol s.Int128 ∷ t.name x ∷ (zero_tokens ++ rest)) x rest

-- = calloc (
abbrev pub calloc_tokens : List Lexeme
calloc_tokens = t.symbol s.Assign ∷ t.symbol s.Calloc ∷ t.symbol s.OpenParen ∷ []

-- , sizeof(uint64_t)); if (x == 0) { return 1099511627776; }
abbrev pub table_tokens : Word → List Lexeme
table_tokens x =
    t.symbol s.Comma ∷ t.name (codes "sizeof") ∷ t.symbol s.OpenParen ∷ t.symbol s.Uint64 ∷ t.symbol s.CloseParen ∷ t.symbol s.CloseParen ∷ t.symbol s.Semicolon
    ∷ t.symbol s.If ∷ t.symbol s.OpenParen ∷ t.name x ∷ t.symbol s.EqualEqual ∷ t.number 0 ∷ t.symbol s.CloseParen ∷ t.symbol s.OpenBrace ∷ t.symbol s.Return ∷ t.number 1099511627776 ∷ t.symbol s.Semicolon ∷ t.symbol s.CloseBrace ∷ []

pub data IsTable : Bool → ℕ → List Lexeme → PlainStmt → List Lexeme → Type 0 where
  made : {p : Bool} {m : ℕ} {ts rest : List Lexeme} {u : PlainExpr} (x : Word) → IsLow p m 1 ts u (table_tokens x ++ rest) → IsTable p m (t.symbol s.Uint64 ∷ t.symbol s.Star ∷ t.name x ∷ (calloc_tokens ++ ts)) (table x u) rest
