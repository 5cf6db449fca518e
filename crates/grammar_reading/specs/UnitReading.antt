-- Reading a whole unit, as a function.
use Rattle.std.specs.Prelude.{ℕ, zero, suc, ℤ, Bool, true, false, ◌&&◌, List, [], ◌∷◌, ◌++◌, length, Option, Some, None, is_some, if◌then◌else◌}
use Rattle.c_tree.specs.Names.{arrays_in}
use Rattle.c_tree.specs.Plain.{Word, begin, verdict, PlainStmts, no_stmts, more_stmts, PlainParam, PlainUnit}
use Rattle.c_tree.specs.declared.symbol.Symbol.{Symbol}
use Rattle.c_tree.specs.declared.symbol.Symbol.TheVariants as s
use Rattle.c_tree.specs.Grammar.Lexemes as t
use Rattle.c_tree.specs.Grammar.Lexemes.{Lexeme}
use Rattle.c_tree.specs.Grammar.Statements.{chain, one, stmt_limit}
use Rattle.c_tree.specs.Grammar.Expressions.{limit}
use Rattle.c_tree.specs.Grammar.Heads.{version_tokens, begin_tokens}
use Rattle.c_tree.specs.Grammar.Units.{pair_tokens, all_checks_below}
use Rattle.grammar_reading.specs.declared.rules.Rules.{Rules}
use Rattle.grammar_reading.specs.Reading.{Read, ◌>>=◌, expect, number_at, all_read}
use Rattle.grammar_reading.specs.Blocks.{name_at, simple, body, inside}
use Rattle.grammar_reading.specs.HeadReading.{range_at, param_at, wide_at, table_at, fixed}

-- ---- lists of parts

-- whether the symbol comes first
abbrev pub begins : Symbol → List Lexeme → Bool
begins k ts = is_some (expect k ts)

module _ {A : Type 0} (part : List Lexeme → Read A) (another : List Lexeme → Bool) where
  abbrev pub many_by : (List A → List Lexeme → Read (List A)) → List A → List Lexeme → Bool → Read (List A)
  many_by go xs ts false = Some (xs, ts)
  many_by go xs ts true = do
    (x, rest) ← part ts
    go (xs ++ x ∷ []) rest

  -- Parts, as long as another one begins, behind those that were read. The number bounds the turns.
  unfoldable pub many : ℕ → List A → List Lexeme → Read (List A)
  many zero xs ts = None
  many (suc n) xs ts = many_by (many n) xs ts (another ts)

abbrev pub ranges : ℕ → List (Word × ℤ × ℤ) → List Lexeme → Read (List (Word × ℤ × ℤ))
ranges = many range_at (begins s.Directive)

-- uint64_t x = n;
unfoldable pub declaration_at : List Lexeme → Read (Word × ℕ)
declaration_at ts = do
  t1 ← expect s.Uint64 ts
  (x, t2) ← name_at t1
  t3 ← expect s.Assign t2
  (n, t4) ← number_at t3
  rest ← expect s.Semicolon t4
  Some ((x, n), rest)

-- A table begins with `uint64_t` too, and goes on with `*`.
unfoldable pub declaration_begins : List Lexeme → Bool
declaration_begins ts = is_some (expect s.Uint64 ts >>= λ rest. name_at rest)

abbrev pub words : ℕ → List (Word × ℕ) → List Lexeme → Read (List (Word × ℕ))
words = many declaration_at declaration_begins

abbrev pub wides : ℕ → List Word → List Lexeme → Read (List Word)
wides = many wide_at (begins s.Unsigned)

-- so many pairs from a number on, with `|` before each
unfoldable pub more_pairs : ℕ → ℕ → List Lexeme → Option (List Lexeme)
more_pairs a zero ts = Some ts
more_pairs a (suc n) ts = do
  t1 ← expect s.Bar ts
  t2 ← fixed (pair_tokens a) t1
  more_pairs (suc a) n t2

-- what the last statement of a unit with so many arrays returns
unfoldable pub totals_at : ℕ → List Lexeme → Option (List Lexeme)
totals_at zero ts = fixed (t.number 0 ∷ []) ts
totals_at (suc n) ts = do
  t1 ← fixed (pair_tokens 0) ts
  more_pairs 1 n t1

unfoldable pub verdict_at : ℕ → List Lexeme → Option (List Lexeme)
verdict_at n ts = do
  t1 ← expect s.Return ts
  t2 ← totals_at n t1
  expect s.Semicolon t2

-- ---- the function

module _ (c : Rules) where
  abbrev pub params_by : (List PlainParam → List Lexeme → Read (List PlainParam)) → List PlainParam → List Lexeme → Option (List Lexeme) → Read (List PlainParam)
  params_by go xs ts None = Some (xs, ts)
  params_by go xs ts (Some rest) = go xs rest

  -- one parameter or more, behind those that were read
  unfoldable pub params : ℕ → List PlainParam → List Lexeme → Read (List PlainParam)
  params zero xs ts = None
  params (suc n) xs ts = do
    (x, rest) ← param_at c ts
    params_by (params n) (xs ++ x ∷ []) rest (expect s.Comma rest)

  -- what follows the function's type: its name, its parameters and the brace
  unfoldable pub head_at : List Lexeme → Read (Word × List PlainParam)
  head_at ts = do
    (f, t1) ← name_at ts
    t2 ← expect s.OpenParen t1
    (ps, t3) ← params c.turns [] t2
    t4 ← expect s.CloseParen t3
    rest ← expect s.OpenBrace t4
    Some ((f, ps), rest)

  -- a statement of the whole function
  abbrev pub stmt_of : List Lexeme → Read PlainStmts
  stmt_of = simple c (stmt_limit c.printed)

  unfoldable pub table_of : List Lexeme → Read PlainStmts
  table_of ts = do
    (a, rest) ← table_at c ts
    Some (one a, rest)

  -- a statement or a table of the top level
  abbrev pub top_one : List Lexeme → Bool → Read PlainStmts
  top_one ts true = table_of ts
  top_one ts false = body stmt_of c.turns ts

  abbrev pub top_by : (PlainStmts → List Lexeme → Read PlainStmts) → PlainStmts → List Lexeme → Bool → Bool → Read PlainStmts
  top_by go us ts true returns = Some (us, ts)
  top_by go us ts false true = Some (us, ts)
  top_by go us ts false false = do
    (vs, rest) ← top_one ts (begins s.Uint64 ts)
    go (chain us vs) rest

  -- The top level of a printed function up to a directive or its verdict, behind the statements that were read.
  unfoldable pub top : ℕ → PlainStmts → List Lexeme → Read PlainStmts
  top zero us ts = None
  top (suc n) us ts = top_by (top n) us ts (begins s.Directive ts) (begins s.Return ts)

-- ---- the unit

-- what is read of a source before its statements
pub record Start : Type 0 where
  pub ranges : List (Word × ℤ × ℤ)
  pub name : Word
  pub params : List PlainParam
  pub words : List (Word × ℕ)

module _ (c : Rules) where
  -- The function's type is given.
  unfoldable pub start_at : Symbol → List Lexeme → Read Start
  start_at type ts = do
    (rs, t1) ← ranges c.turns [] ts
    t2 ← expect type t1
    (head, t3) ← head_at c t2
    (ws, rest) ← words c.turns [] t3
    Some (record { ranges = rs; name = head.0; params = head.1; words = ws }, rest)

  unfoldable pub source_at : List Lexeme → Read PlainUnit
  source_at ts = do
    (start, t1) ← start_at s.Void ts
    (us, rest) ← inside (stmt_of c) c.turns 0 no_stmts t1
    Some (record { version = None; ranges = start.ranges; name = start.name; params = start.params; words = start.words; wides = []; body = us }, rest)

  -- the statements before `begin` and behind it
  unfoldable pub halves_at : List Lexeme → Read (PlainStmts × PlainStmts)
  halves_at ts = do
    (us, t1) ← top c c.turns no_stmts ts
    t2 ← fixed begin_tokens t1
    (vs, rest) ← top c c.turns no_stmts t2
    Some ((us, vs), rest)

  -- the statements of a unit with so many arrays, and the brace
  unfoldable pub printed_body : ℕ → List Lexeme → Read PlainStmts
  printed_body arrays ts = do
    (halves, t1) ← halves_at ts
    t2 ← verdict_at arrays t1
    rest ← expect s.CloseBrace t2
    if all_checks_below arrays halves.0 && all_checks_below arrays halves.1 then Some (chain halves.0 (more_stmts begin (chain halves.1 (one verdict))), rest) else None

  -- behind the preamble
  unfoldable pub printed_at : List Lexeme → Read PlainUnit
  printed_at ts = do
    t1 ← fixed version_tokens ts
    (start, t2) ← start_at s.Uint64 t1
    (xs, t3) ← wides c.turns [] t2
    (us, rest) ← printed_body (length (arrays_in start.params)) t3
    Some (record { version = Some 1; ranges = start.ranges; name = start.name; params = start.params; words = start.words; wides = xs; body = us }, rest)

abbrev pub rules_of : Bool → ℕ → Rules
rules_of printed turns = record { printed = printed; limit = limit printed; turns = turns }

abbrev pub unit_by : ℕ → List Lexeme → Option (List Lexeme) → Read PlainUnit
unit_by turns ts None = source_at (rules_of false turns) ts
unit_by turns ts (Some rest) = printed_at (rules_of true turns) rest

-- the unit of all tokens
unfoldable pub unit_at : List Lexeme → Option PlainUnit
unit_at ts = do
  (u, rest) ← unit_by (suc (length ts)) ts (expect s.Preamble ts)
  all_read u rest
