-- Reading statements, as a function.
use Rattle.std.specs.Prelude.{ℕ, zero, suc, ◌+◌, ◌^◌, ◌==◌, bytes_eq, List, [], ◌∷◌, drop, Option, Some, None, if◌then◌else◌}
use Rattle.c_tree.specs.declared.expr.Rel.{Rel}
use Rattle.c_tree.specs.declared.expr.BinOp.{BinOp}
use Rattle.c_tree.specs.Plain.{Word, PlainExpr, PlainTest, loop, choice, assign, check, PlainStmts, no_stmts}
use Rattle.c_tree.specs.declared.symbol.Symbol.{Symbol}
use Rattle.c_tree.specs.declared.symbol.Symbol.TheVariants as s
use Rattle.c_tree.specs.Grammar.Lexemes as t
use Rattle.c_tree.specs.Grammar.Lexemes.{Lexeme}
use Rattle.c_tree.specs.Grammar.Statements.{chain, one, set_op, bounds}
use Rattle.grammar_reading.specs.declared.rules.Rules.{Rules}
use Rattle.grammar_reading.specs.Reading.{Read, ◌>>=◌, expect, number_at, front_rel, named, expr, deepest, conds}

unfoldable pub name_at : List Lexeme → Read Word
name_at [] = None
name_at (t.name x ∷ ts) = Some (x, ts)
name_at (t.number n ∷ ts) = None
name_at (t.symbol j ∷ ts) = None

unfoldable pub this_name : Word → List Lexeme → Option (List Lexeme)
this_name v ts = do
  (x, rest) ← name_at ts
  if bytes_eq x v then Some rest else None

unfoldable pub this_number : ℕ → List Lexeme → Option (List Lexeme)
this_number n ts = do
  (k, rest) ← number_at ts
  if k == n then Some rest else None

unfoldable pub set_at : List Lexeme → Read (Option BinOp)
set_at [] = None
set_at (t.name x ∷ ts) = None
set_at (t.number n ∷ ts) = None
set_at (t.symbol j ∷ ts) = set_op j >>= λ op. Some (op, ts)

unfoldable pub bound_at : List Lexeme → Read Rel
bound_at ts = front_rel ts >>= λ rel. if bounds rel then Some (rel, drop 1 ts) else None

abbrev pub step_on : List Lexeme → Option (List Lexeme) → Option (List Lexeme)
step_on ts (Some rest) = Some rest
step_on ts None = do
  rest ← expect s.AddAssign ts
  this_number 1 rest

abbrev pub step_by : Word → List Lexeme → Option (List Lexeme) → Option (List Lexeme)
step_by v ts (Some rest) = this_name v rest
step_by v ts None = do
  rest ← this_name v ts
  step_on rest (expect s.PlusPlus rest)

unfoldable pub step_at : Word → List Lexeme → Option (List Lexeme)
step_at v ts = step_by v ts (expect s.PlusPlus ts)

-- the array whose number the literal of a check shows
unfoldable pub array_below : ℕ → ℕ → Option ℕ
array_below zero n = None
array_below (suc a) n = if n == 2 ^ (16 + a) then Some a else array_below a n

module _ (c : Rules) where
  abbrev pub side : List Lexeme → Read PlainExpr
  side = expr c (deepest c) 1

  unfoldable pub place : List Lexeme → Read PlainExpr
  place ts = do
    (x, rest) ← name_at ts
    named c (expr c (deepest c)) x rest

  unfoldable pub assign_at : List Lexeme → Read PlainStmts
  assign_at ts = do
    (x, t1) ← place ts
    (op, t2) ← set_at t1
    (u, t3) ← side t2
    rest ← expect s.Semicolon t3
    Some (one (assign x op u), rest)

  unfoldable pub for_start : List Lexeme → Read (Word × PlainExpr)
  for_start ts = do
    t1 ← expect s.OpenParen ts
    t2 ← expect s.Int64 t1
    (v, t3) ← name_at t2
    t4 ← expect s.Assign t3
    (lo, t5) ← side t4
    t6 ← expect s.Semicolon t5
    Some ((v, lo), t6)

  unfoldable pub for_bound : Word → List Lexeme → Read (Rel × PlainExpr)
  for_bound v ts = do
    t1 ← this_name v ts
    (rel, t2) ← bound_at t1
    (hi, t3) ← side t2
    t4 ← expect s.Semicolon t3
    Some ((rel, hi), t4)

  unfoldable pub for_step : Word → List Lexeme → Option (List Lexeme)
  for_step v ts = do
    t1 ← step_at v ts
    expect s.CloseParen t1

  -- ( x >= (uint64_t)( e ) ) { return
  unfoldable pub check_start : List Lexeme → Read Word
  check_start ts = do
    (x, t1) ← name_at ts
    t2 ← expect s.GreaterEqual t1
    t3 ← expect s.OpenParen t2
    t4 ← expect s.Uint64 t3
    t5 ← expect s.CloseParen t4
    t6 ← expect s.OpenParen t5
    Some (x, t6)

  unfoldable pub check_middle : List Lexeme → Read PlainExpr
  check_middle ts = do
    (u, t1) ← side ts
    t2 ← expect s.CloseParen t1
    t3 ← expect s.CloseParen t2
    t4 ← expect s.OpenBrace t3
    t5 ← expect s.Return t4
    Some (u, t5)

  unfoldable pub check_front : List Lexeme → Read (Word × PlainExpr)
  check_front ts = do
    (x, t1) ← check_start ts
    (u, t2) ← check_middle t1
    Some ((x, u), t2)

  unfoldable pub check_end : Word × PlainExpr → List Lexeme → Read PlainStmts
  check_end x ts = do
    (n, t1) ← number_at ts
    t2 ← expect s.Semicolon t1
    rest ← expect s.CloseBrace t2
    a ← array_below 48 n
    Some (one (check x.0 x.1 a), rest)

  -- ---- over the reading of a part, and of a statement that is no block
  module _ (body : List Lexeme → Read PlainStmts) where
    unfoldable pub for_at : List Lexeme → Read PlainStmts
    for_at ts = do
      (start, t1) ← for_start ts
      (bound, t2) ← for_bound start.0 t1
      t3 ← for_step start.0 t2
      (us, rest) ← body t3
      Some (one (loop start.0 start.1 bound.0 bound.1 us), rest)

    abbrev pub else_by : List PlainTest → PlainStmts → List Lexeme → Option (List Lexeme) → Read PlainStmts
    else_by cs us ts None = Some (one (choice cs us no_stmts), ts)
    else_by cs us ts (Some other) = do
      (vs, rest) ← body other
      Some (one (choice cs us vs), rest)

    unfoldable pub if_plain : List Lexeme → Read PlainStmts
    if_plain ts = do
      (cs, t1) ← conds c c.turns 0 [] ts
      t2 ← expect s.CloseParen t1
      (us, after) ← body t2
      else_by cs us after (expect s.Else after)

    abbrev pub if_by : List Lexeme → Option ((Word × PlainExpr) × List Lexeme) → Read PlainStmts
    if_by ts None = if_plain ts
    if_by ts (Some x) = check_end x.0 x.1

    abbrev pub if_open : List Lexeme → Read PlainStmts
    if_open ts = if c.printed then if_by ts (check_front ts) else if_plain ts

    unfoldable pub if_at : List Lexeme → Read PlainStmts
    if_at ts = do
      t1 ← expect s.OpenParen ts
      if_open t1

    abbrev pub by_sign : Symbol → List Lexeme → Read PlainStmts
    by_sign s.Semicolon ts = Some (no_stmts, ts)
    by_sign s.For ts = for_at ts
    by_sign s.If ts = if_at ts
    by_sign _ ts = None

    unfoldable pub stmt_at : List Lexeme → Read PlainStmts
    stmt_at [] = None
    stmt_at (t.name x ∷ ts) = assign_at (t.name x ∷ ts)
    stmt_at (t.number n ∷ ts) = None
    stmt_at (t.symbol j ∷ ts) = by_sign j ts

module _ (simple : List Lexeme → Read PlainStmts) where
  abbrev pub closing : (ℕ → PlainStmts → List Lexeme → Read PlainStmts) → ℕ → PlainStmts → List Lexeme → Read PlainStmts
  closing go zero us ts = Some (us, ts)
  closing go (suc held) us ts = go held us ts

  abbrev pub inside_by : (ℕ → PlainStmts → List Lexeme → Read PlainStmts) → ℕ → PlainStmts → List Lexeme → Option (List Lexeme) → Option (List Lexeme) → Read PlainStmts
  inside_by go held us ts (Some rest) other = closing go held us rest
  inside_by go held us ts None (Some rest) = go (suc held) us rest
  inside_by go held us ts None None = do
    (vs, rest) ← simple ts
    go held (chain us vs) rest

  -- Behind the statements that were read in a block, with so many blocks open around it.
  unfoldable pub inside : ℕ → ℕ → PlainStmts → List Lexeme → Read PlainStmts
  inside zero held us ts = None
  inside (suc n) held us ts = inside_by (inside n) held us ts (expect s.CloseBrace ts) (expect s.OpenBrace ts)

  abbrev pub body_by : ℕ → List Lexeme → Option (List Lexeme) → Read PlainStmts
  body_by n ts None = simple ts
  body_by n ts (Some rest) = inside n 0 no_stmts rest

  -- a statement
  abbrev pub body : ℕ → List Lexeme → Read PlainStmts
  body n ts = body_by n ts (expect s.OpenBrace ts)

-- The depth bounds the height, which blocks don't raise.
unfoldable pub simple : Rules → ℕ → List Lexeme → Read PlainStmts
simple c zero ts = do
  rest ← expect s.Semicolon ts
  Some (no_stmts, rest)
simple c (suc depth) ts = stmt_at c (body (simple c depth) c.turns) ts
