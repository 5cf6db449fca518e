-- Which token lists are units, and of which plain units.
use Rattle.std.specs.Prelude.{◌≡◌, ℕ, suc, ◌≤◌, nat_lt, Bool, true, false, ◌&&◌, List, [], ◌∷◌, ◌++◌, length, Some, None, ℤ, codes, decimal}
use Rattle.c_tree.specs.Names.{arrays_in}
use Rattle.c_tree.specs.Plain.{Word, PlainStmt, loop, choice, assign, table, begin, check, verdict, PlainStmts, no_stmts, more_stmts, PlainParam, PlainUnit}
use Rattle.c_tree.specs.declared.symbol.Symbol.TheVariants as s
use Rattle.c_tree.specs.Grammar.Lexemes as t
use Rattle.c_tree.specs.Grammar.Lexemes.{Lexeme}
use Rattle.c_tree.specs.Grammar.Statements.{IsStmt, IsStmts, chain, one, stmts_height}
use Rattle.c_tree.specs.Grammar.Heads.{IsRange, IsParam, IsWide, IsTable, version_tokens, begin_tokens}

pub data AreRanges : List Lexeme → List (Word × ℤ × ℤ) → List Lexeme → Type 0 where
  no_ranges : {rest : List Lexeme} → AreRanges rest [] rest
  more_ranges : {ts after rest : List Lexeme} {x : Word × ℤ × ℤ} {xs : List (Word × ℤ × ℤ)} → IsRange ts x after → AreRanges after xs rest → AreRanges ts (x ∷ xs) rest

-- one parameter or more
pub data AreParams : Bool → ℕ → List Lexeme → List PlainParam → List Lexeme → Type 0 where
  one_param : {p : Bool} {m : ℕ} {ts rest : List Lexeme} {x : PlainParam} → IsParam p m ts x rest → AreParams p m ts (x ∷ []) rest
  more_params : {p : Bool} {m : ℕ} {ts after rest : List Lexeme} {x : PlainParam} {xs : List PlainParam} → IsParam p m ts x (t.symbol s.Comma ∷ after) → AreParams p m after xs rest → AreParams p m ts (x ∷ xs) rest

-- declarations of words
pub data AreWords : List Lexeme → List (Word × ℕ) → List Lexeme → Type 0 where
  no_words : {rest : List Lexeme} → AreWords rest [] rest
  more_words : {ts rest : List Lexeme} {xs : List (Word × ℕ)} (x : Word) (n : ℕ) → AreWords ts xs rest → AreWords (t.symbol s.Uint64 ∷ t.name x ∷ t.symbol s.Assign ∷ t.number n ∷ t.symbol s.Semicolon ∷ ts) ((x, n) ∷ xs) rest

pub data AreWides : List Lexeme → List Word → List Lexeme → Type 0 where
  no_wides : {rest : List Lexeme} → AreWides rest [] rest
  more_wides : {ts after rest : List Lexeme} {x : Word} {xs : List Word} → IsWide ts x after → AreWides after xs rest → AreWides ts (x ∷ xs) rest

-- statements of the function's top level, tables among them
pub data AreTop : Bool → ℕ → List Lexeme → PlainStmts → List Lexeme → Type 0 where
  no_top : {p : Bool} {m : ℕ} {rest : List Lexeme} → AreTop p m rest no_stmts rest
  more_top : {p : Bool} {m : ℕ} {open_end : Bool} {ts after rest : List Lexeme} {us vs : PlainStmts} → IsStmt p m open_end ts us after → AreTop p m after vs rest → AreTop p m ts (chain us vs) rest
  table_top : {p : Bool} {m : ℕ} {ts after rest : List Lexeme} {u : PlainStmt} {vs : PlainStmts} → IsTable p m ts u after → AreTop p m after vs rest → AreTop p m ts (more_stmts u vs) rest

-- (uint64_t)(bal_def0 != bal_use0) << 0
abbrev pub pair_tokens : ℕ → List Lexeme
pair_tokens a =
    t.symbol s.OpenParen ∷ t.symbol s.Uint64 ∷ t.symbol s.CloseParen ∷ t.symbol s.OpenParen ∷ t.name (codes "bal_def" ++ decimal a) ∷ t.symbol s.NotEqual ∷ t.name (codes "bal_use" ++ decimal a) ∷ t.symbol s.CloseParen
    ∷ t.symbol s.ShiftLeft ∷ t.number a ∷ []

-- a pair for each array behind the first, from number a on
abbrev pub more_pair_tokens : ℕ → List Word → List Lexeme → List Lexeme
more_pair_tokens a [] rest = rest
more_pair_tokens a (x ∷ xs) rest = t.symbol s.Bar ∷ (pair_tokens a ++ more_pair_tokens (suc a) xs rest)

-- return, and what the arrays of a unit give
abbrev pub verdict_tokens : List Word → List Lexeme → List Lexeme
verdict_tokens [] rest = t.symbol s.Return ∷ t.number 0 ∷ t.symbol s.Semicolon ∷ rest
verdict_tokens (x ∷ xs) rest = t.symbol s.Return ∷ (pair_tokens 0 ++ more_pair_tokens 1 xs (t.symbol s.Semicolon ∷ rest))

-- Each check is of one of so many arrays, which are numbered from 0.
abbrev mutual
  pub checks_below : ℕ → PlainStmt → Bool
  checks_below n (loop x lo rel hi body) = all_checks_below n body
  checks_below n (choice ts first other) = all_checks_below n first && all_checks_below n other
  checks_below n (assign target op e) = true
  checks_below n (table x len) = true
  checks_below n begin = true
  checks_below n (check x extent a) = nat_lt a n
  checks_below n verdict = true

  pub all_checks_below : ℕ → PlainStmts → Bool
  all_checks_below n no_stmts = true
  all_checks_below n (more_stmts s ss) = checks_below n s && all_checks_below n ss

-- An expression is at most 64 high in a source and 256 in a printed text, a statement 64 and 160.
pub data IsUnit : List Lexeme → PlainUnit → Type 0 where
  source : {ts params words body : List Lexeme} {rs : List (Word × ℤ × ℤ)} {ps : List PlainParam} {ws : List (Word × ℕ)} {us : PlainStmts} (f : Word)
      → AreRanges ts rs (t.symbol s.Void ∷ t.name f ∷ t.symbol s.OpenParen ∷ params) → AreParams false 64 params ps (t.symbol s.CloseParen ∷ t.symbol s.OpenBrace ∷ words)
      → AreWords words ws body → IsStmts false 64 body us (t.symbol s.CloseBrace ∷ []) → stmts_height us ≤ 64
      → IsUnit ts (record { version = None; ranges = rs; name = f; params = ps; words = ws; wides = []; body = us })
  printed : {ts params words wides before body : List Lexeme} {rs : List (Word × ℤ × ℤ)} {ps : List PlainParam} {ws : List (Word × ℕ)} {xs : List Word} {us vs : PlainStmts} (f : Word)
      → AreRanges ts rs (t.symbol s.Uint64 ∷ t.name f ∷ t.symbol s.OpenParen ∷ params) → AreParams true 256 params ps (t.symbol s.CloseParen ∷ t.symbol s.OpenBrace ∷ words)
      → AreWords words ws wides → AreWides wides xs before → AreTop true 256 before us (begin_tokens ++ body) → AreTop true 256 body vs (verdict_tokens (arrays_in ps) (t.symbol s.CloseBrace ∷ []))
      → stmts_height us ≤ 160 → stmts_height vs ≤ 160 → all_checks_below (length (arrays_in ps)) us ≡ true → all_checks_below (length (arrays_in ps)) vs ≡ true
      → IsUnit (t.symbol s.Preamble ∷ (version_tokens ++ ts)) (record { version = Some 1; ranges = rs; name = f; params = ps; words = ws; wides = xs; body = chain us (more_stmts begin (chain vs (one verdict))) })
