-- Reading the parts of a unit's head, and the tables of a printed text, as functions.
use Rattle.std.specs.Prelude.{ℕ, zero, suc, ℤ, pos, ◌^◌, nat_lt, nat_le, Bool, true, false, List, [], ◌∷◌, Option, Some, None, codes, if◌then◌else◌}
use Rattle.c_tree.specs.Plain.{Word, PlainExpr, PlainExprs, no_exprs, more_exprs, PlainStmt, table, PlainParam, int_param, array_param}
use Rattle.c_tree.specs.declared.symbol.Symbol.TheVariants as s
use Rattle.c_tree.specs.Grammar.Lexemes as t
use Rattle.c_tree.specs.Grammar.Lexemes.{Lexeme}
use Rattle.grammar_reading.specs.declared.rules.Rules.{Rules}
use Rattle.grammar_reading.specs.Reading.{Read, ◌>>=◌, expect, number_at}
use Rattle.grammar_reading.specs.Blocks.{name_at, this_name, this_number, side}
use Rattle.c_tree.specs.Grammar.Heads.{opposite, zero_tokens, calloc_tokens, table_tokens}

unfoldable pub plus_at : List Lexeme → Read ℤ
plus_at ts = do
  (n, rest) ← number_at ts
  if nat_lt n (2 ^ 63) then Some (pos n, rest) else None

unfoldable pub minus_at : List Lexeme → Read ℤ
minus_at ts = do
  (n, rest) ← number_at ts
  if nat_le n (2 ^ 63) then Some (opposite n, rest) else None

abbrev pub int_by : List Lexeme → Option (List Lexeme) → Read ℤ
int_by ts None = plus_at ts
int_by ts (Some rest) = minus_at rest

unfoldable pub int_at : List Lexeme → Read ℤ
int_at ts = int_by ts (expect s.Minus ts)

unfoldable pub range_at : List Lexeme → Read (Word × ℤ × ℤ)
range_at ts = do
  t1 ← expect s.Directive ts
  t2 ← this_name (codes "range") t1
  (x, t3) ← name_at t2
  (lo, t4) ← int_at t3
  (hi, t5) ← int_at t4
  rest ← expect s.EndLine t5
  Some ((x, lo, hi), rest)

module _ (c : Rules) where
  unfoldable pub dim : List Lexeme → Read PlainExpr
  dim ts = do
    t1 ← expect s.OpenBracket ts
    (u, t2) ← side c t1
    rest ← expect s.CloseBracket t2
    Some (u, rest)

  abbrev pub dims_by : (List Lexeme → Read PlainExprs) → PlainExpr → List Lexeme → Option (List Lexeme) → Read PlainExprs
  dims_by go u ts None = Some (more_exprs u no_exprs, ts)
  dims_by go u ts (Some inside) = do
    (us, rest) ← go ts
    Some (more_exprs u us, rest)

  unfoldable pub dims : ℕ → List Lexeme → Read PlainExprs
  dims zero ts = do
    (u, rest) ← dim ts
    Some (more_exprs u no_exprs, rest)
  dims (suc k) ts = do
    (u, after) ← dim ts
    dims_by (dims k) u after (expect s.OpenBracket after)

  unfoldable pub array_at : Bool → List Lexeme → Read PlainParam
  array_at constant ts = do
    t1 ← expect s.Uint64 ts
    (x, t2) ← name_at t1
    (us, rest) ← dims 2 t2
    Some (array_param x constant us, rest)

  abbrev pub param_on : List Lexeme → Option (List Lexeme) → Read PlainParam
  param_on ts None = array_at false ts
  param_on ts (Some rest) = array_at true rest

  abbrev pub param_by : List Lexeme → Option (List Lexeme) → Read PlainParam
  param_by ts None = param_on ts (expect s.Const ts)
  param_by ts (Some after) = do
    (x, rest) ← name_at after
    Some (int_param x, rest)

  unfoldable pub param_at : List Lexeme → Read PlainParam
  param_at ts = param_by ts (expect s.Int64 ts)

-- ---- printed texts

-- the same token
unfoldable pub this : Lexeme → List Lexeme → Option (List Lexeme)
this (t.name x) ts = this_name x ts
this (t.number n) ts = this_number n ts
this (t.symbol j) ts = expect j ts

-- these tokens, one by one
unfoldable pub fixed : List Lexeme → List Lexeme → Option (List Lexeme)
fixed [] ts = Some ts
fixed (p ∷ ps) ts = this p ts >>= λ rest. fixed ps rest

unfoldable pub wide_at : List Lexeme → Read Word
wide_at ts = do
  t1 ← fixed (t.symbol s.Unsigned ∷ t.symbol s.Int128 ∷ []) ts
  (x, t2) ← name_at t1
  rest ← fixed zero_tokens t2
  Some (x, rest)

unfoldable pub table_at : Rules → List Lexeme → Read PlainStmt
table_at c ts = do
  t1 ← fixed (t.symbol s.Uint64 ∷ t.symbol s.Star ∷ []) ts
  (x, t2) ← name_at t1
  t3 ← fixed calloc_tokens t2
  (u, t4) ← side c t3
  rest ← fixed (table_tokens x) t4
  Some (table x u, rest)
