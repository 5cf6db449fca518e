-- Reading a token list from its front, as a function.
use Rattle.std.specs.Prelude.{ℕ, zero, suc, ◌+◌, List, [], ◌∷◌, ◌++◌, drop, Bool, Option, Some, None, option_and_then, nat_lt, nat_le, if◌then◌else◌}
use denote.Enum.Bare.{sameb}
use Rattle.c_tree.specs.declared.expr.Rel.{Rel}
use Rattle.c_tree.specs.declared.expr.Rel.TheVariants as r
use Rattle.c_tree.specs.declared.expr.UnOp.{UnOp}
use Rattle.c_tree.specs.declared.expr.UnOp.TheVariants.{Neg, Inv}
use Rattle.c_tree.specs.declared.expr.BinOp.{BinOp}
use Rattle.c_tree.specs.declared.expr.BinOp.TheVariants as o
use Rattle.c_tree.specs.Plain.{Word, PlainExpr, lit, var, cell, un, bin, cast, test, widen, big, PlainExprs, no_exprs, more_exprs, PlainTest}
use Rattle.c_tree.specs.contracts.symbol.Symbol.{the_type}
use Rattle.c_tree.specs.declared.symbol.Symbol.{Symbol}
use Rattle.c_tree.specs.declared.symbol.Symbol.TheVariants as s
use Rattle.c_tree.specs.Grammar.Lexemes as t
use Rattle.c_tree.specs.Grammar.Lexemes.{Lexeme}
use Rattle.c_tree.specs.Grammar.Tables.{level, Call, call_min, call_max, call_least, call_greatest, called, allowed}
use Rattle.c_tree.specs.Grammar.Expressions.{height}
use Rattle.grammar_reading.specs.declared.rules.Rules.{Rules}

-- what was read, and the rest
abbrev pub Read : Type 0 → Type 0
Read A = Option (A × List Lexeme)

infixl 10 ◌>>=◌
abbrev pub ◌>>=◌ : {A B : Type 0} → Option A → (A → Option B) → Option B
o >>= f = option_and_then f o

unfoldable pub same : Symbol → Symbol → Bool
same = sameb the_type

-- the rest after this sign
unfoldable pub expect : Symbol → List Lexeme → Option (List Lexeme)
expect k [] = None
expect k (t.name x ∷ ts) = None
expect k (t.number n ∷ ts) = None
expect k (t.symbol j ∷ ts) = if same j k then Some ts else None

unfoldable pub number_at : List Lexeme → Read ℕ
number_at [] = None
number_at (t.name x ∷ ts) = None
number_at (t.number n ∷ ts) = Some (n, ts)
number_at (t.symbol j ∷ ts) = None

-- the tree, if it isn't too high
unfoldable pub node : Rules → PlainExpr → List Lexeme → Read PlainExpr
node c u ts = if nat_le (height u) c.limit then Some (u, ts) else None

abbrev pub operator : Symbol → Option BinOp
operator s.Bar = Some o.Or
operator s.Caret = Some o.Xor
operator s.Ampersand = Some o.And
operator s.ShiftLeft = Some o.Shl
operator s.ShiftRight = Some o.Shr
operator s.Plus = Some o.Add
operator s.Minus = Some o.Sub
operator s.Star = Some o.Mul
operator s.Slash = Some o.Div
operator s.Percent = Some o.Rem
operator _ = None

-- the binary operator at the front
abbrev pub front_op : List Lexeme → Option BinOp
front_op [] = None
front_op (t.name x ∷ ts) = None
front_op (t.number n ∷ ts) = None
front_op (t.symbol j ∷ ts) = operator j

abbrev pub relation : Symbol → Option Rel
relation s.Less = Some r.Lt
relation s.LessEqual = Some r.Le
relation s.Greater = Some r.Gt
relation s.GreaterEqual = Some r.Ge
relation s.EqualEqual = Some r.Eq
relation s.NotEqual = Some r.Ne
relation _ = None

-- the comparison at the front
abbrev pub front_rel : List Lexeme → Option Rel
front_rel [] = None
front_rel (t.name x ∷ ts) = None
front_rel (t.number n ∷ ts) = None
front_rel (t.symbol j ∷ ts) = relation j

-- ---- parentheses that aren't a cast's

abbrev pub paren_by : List Lexeme → Option (List Lexeme) → Option (List Lexeme) → Option (List Lexeme)
paren_by inside None None = Some inside
paren_by inside (Some word) other = None
paren_by inside None (Some word) = None

-- the tokens after an opening parenthesis that isn't a cast's
unfoldable pub paren : List Lexeme → Option (List Lexeme)
paren ts = do
  inside ← expect s.OpenParen ts
  paren_by inside (expect s.Uint64 inside) (expect s.Unsigned inside)

abbrev pub opens_by : List Lexeme → ℕ × List Lexeme → Option (List Lexeme) → ℕ × List Lexeme
opens_by ts deeper None = (0, ts)
opens_by ts deeper (Some inside) = (suc deeper.0, deeper.1)

-- how many such parentheses there are at the front, and what is inside all of them
unfoldable pub opens : List Lexeme → ℕ × List Lexeme
opens [] = (0, [])
opens (x ∷ ts) = opens_by (x ∷ ts) (opens ts) (paren (x ∷ ts))

-- ---- the rules, over the reading of their parts: its number is the least level of an operator that the expression goes on with

module _ (c : Rules) (expr : ℕ → List Lexeme → Read PlainExpr) where
  abbrev pub climb_by : ℕ → (PlainExpr → List Lexeme → Read PlainExpr) → PlainExpr → List Lexeme → Option BinOp → Read PlainExpr
  climb_by low go left ts None = Some (left, ts)
  climb_by low go left ts (Some op) = if nat_lt (level op) low then Some (left, ts) else (do
    (right, behind) ← expr (suc (level op)) (drop 1 ts)
    (whole, rest) ← node c (bin op left right) behind
    go whole rest)

  -- The second number bounds the turns.
  unfoldable pub climb : ℕ → ℕ → PlainExpr → List Lexeme → Read PlainExpr
  climb low zero left ts = None
  climb low (suc n) left ts = climb_by low (climb low n) left ts (front_op ts)

  -- up to the parenthesis that closes, and past it
  unfoldable pub close : PlainExpr → List Lexeme → Read PlainExpr
  close left ts = do
    (u, behind) ← climb 1 c.turns left ts
    rest ← expect s.CloseParen behind
    Some (u, rest)

  -- so many parentheses
  unfoldable pub closes : ℕ → PlainExpr → List Lexeme → Read PlainExpr
  closes zero left ts = Some (left, ts)
  closes (suc k) left ts = do
    (u, rest) ← close left ts
    closes k u rest

  abbrev pub cells_by : (List Lexeme → Read PlainExprs) → PlainExpr → List Lexeme → Option (List Lexeme) → Read PlainExprs
  cells_by go u after None = Some (more_exprs u no_exprs, after)
  cells_by go u after (Some inside) = do
    (us, rest) ← go after
    Some (more_exprs u us, rest)

  unfoldable pub one_cell : List Lexeme → Read PlainExpr
  one_cell ts = do
    inside ← expect s.OpenBracket ts
    (u, close) ← expr 1 inside
    after ← expect s.CloseBracket close
    Some (u, after)

  unfoldable pub cells : ℕ → List Lexeme → Read PlainExprs
  cells zero ts = None
  cells (suc n) ts = do
    (u, after) ← one_cell ts
    cells_by (cells n) u after (expect s.OpenBracket after)

  abbrev pub named_by : Word → List Lexeme → Option (List Lexeme) → Read PlainExpr
  named_by x ts None = Some (var x, ts)
  named_by x ts (Some inside) = do
    (us, rest) ← cells c.turns ts
    node c (cell x us) rest

  abbrev pub named : Word → List Lexeme → Read PlainExpr
  named x ts = named_by x ts (expect s.OpenBracket ts)

  abbrev pub applied : UnOp → List Lexeme → Read PlainExpr
  applied op ts = do
    (u, rest) ← expr 7 ts
    node c (un op u) rest

  unfoldable pub two : Call → List Lexeme → Read PlainExpr
  two k ts = do
    inside ← expect s.OpenParen ts
    (a, comma) ← expr 1 inside
    second ← expect s.Comma comma
    (b, close) ← expr 1 second
    rest ← expect s.CloseParen close
    node c (called k a b) rest

  abbrev pub call : Call → List Lexeme → Read PlainExpr
  call k ts = if allowed c.printed k then two k ts else None

  unfoldable pub wide_parts : List Lexeme → Read PlainExpr
  wide_parts ts = do
    first ← expect s.OpenParen ts
    (high, comma) ← number_at first
    second ← expect s.Comma comma
    (low, close) ← number_at second
    rest ← expect s.CloseParen close
    Some (big high low, rest)

  abbrev pub wide : List Lexeme → Read PlainExpr
  wide ts = if c.printed then wide_parts ts else None

  unfoldable pub wide_parts_cast : List Lexeme → Read PlainExpr
  wide_parts_cast ts = do
    doubled ← expect s.Unsigned ts
    close ← expect s.Int128 doubled
    inner ← expect s.CloseParen close
    (u, rest) ← expr 7 inner
    node c (widen u) rest

  abbrev pub wide_cast : List Lexeme → Read PlainExpr
  wide_cast ts = if c.printed then wide_parts_cast ts else None

  -- ---- conditions

  -- After the first operand of a conjunct that so many parentheses stand before: how many of them are left when a comparison comes, it, its left side
  abbrev pub seek_by : ℕ → (PlainExpr → List Lexeme → Read (ℕ × Rel × PlainExpr)) → PlainExpr → List Lexeme → Option Rel → Read (ℕ × Rel × PlainExpr)
  seek_by k go a ts (Some rel) = Some ((k, rel, a), drop 1 ts)
  seek_by k go a ts None = do
    (u, rest) ← close a ts
    go u rest

  unfoldable pub seek : ℕ → PlainExpr → List Lexeme → Read (ℕ × Rel × PlainExpr)
  seek zero left ts = do
    (a, rest) ← climb 4 c.turns left ts
    seek_by 0 (λ u ts. None) a rest (front_rel rest)
  seek (suc k) left ts = do
    (a, rest) ← climb 4 c.turns left ts
    seek_by (suc k) (seek k) a rest (front_rel rest)

-- The second reader is that of a depth one less: what stands in the parentheses of a cast was begun by the first, and is gone on with as that did.
module _ (c : Rules) (expr lower : ℕ → List Lexeme → Read PlainExpr) where
  -- After the parenthesis that a cast's type is followed by, the left side or the operand was read up to the level of a comparison.
  abbrev pub grouped_by : PlainExpr → List Lexeme → Option Rel → Read PlainExpr
  grouped_by a ts None = do
    (u, rest) ← close c lower a ts
    node c (cast u) rest
  grouped_by a ts (Some rel) = do
    (b, behind) ← expr 4 (drop 1 ts)
    rest ← expect s.CloseParen behind
    node c (test rel a b) rest

  unfoldable pub grouped : List Lexeme → Read PlainExpr
  grouped ts = do
    (a, rest) ← expr 4 ts
    grouped_by a rest (front_rel rest)

  abbrev pub cast_by : List Lexeme → Option (List Lexeme) → Read PlainExpr
  cast_by ts None = do
    (u, rest) ← expr 7 ts
    node c (cast u) rest
  cast_by ts (Some inside) = grouped inside

  unfoldable pub word_cast : List Lexeme → Read PlainExpr
  word_cast ts = do
    inner ← expect s.CloseParen ts
    cast_by inner (paren inner)

  abbrev pub converted_by : List Lexeme → Option (List Lexeme) → Read PlainExpr
  converted_by ts None = wide_cast c expr ts
  converted_by ts (Some word) = word_cast word

  abbrev pub converted : List Lexeme → Read PlainExpr
  converted ts = converted_by ts (expect s.Uint64 ts)

  abbrev pub signed : Symbol → List Lexeme → Read PlainExpr
  signed s.Minus ts = applied c expr Neg ts
  signed s.Tilde ts = applied c expr Inv ts
  signed s.Umin ts = call c expr call_min ts
  signed s.Umax ts = call c expr call_max ts
  signed s.BalMin ts = call c expr call_least ts
  signed s.BalMax ts = call c expr call_greatest ts
  signed s.BalWide ts = wide c expr ts
  signed s.OpenParen ts = converted ts
  signed _ ts = None

  unfoldable pub operand : List Lexeme → Read PlainExpr
  operand [] = None
  operand (t.name x ∷ ts) = named c expr x ts
  operand (t.number n ∷ ts) = Some (lit n, ts)
  operand (t.symbol j ∷ ts) = signed j ts

-- The depth bounds the height of the tree, which parentheses don't raise.
unfoldable mutual
  pub expr : Rules → ℕ → ℕ → List Lexeme → Read PlainExpr
  expr c zero low ts = None
  expr c (suc depth) low ts = do
    (first, after) ← operand c (expr c depth) (lower c depth) (opens ts).1
    (left, rest) ← closes c (expr c depth) (opens ts).0 first after
    climb c (expr c depth) low c.turns left rest

  pub lower : Rules → ℕ → ℕ → List Lexeme → Read PlainExpr
  lower c zero = λ low ts. None
  lower c (suc depth) = expr c depth

abbrev pub deepest : Rules → ℕ
deepest c = c.limit

-- one comparison, with the parentheses that are still open where it ends
unfoldable pub compare : Rules → List Lexeme → Read (ℕ × PlainTest)
compare c ts = do
  (first, after) ← operand c (expr c (deepest c)) (lower c (deepest c)) (opens ts).1
  (found, second) ← seek c (expr c (deepest c)) (opens ts).0 first after
  (b, rest) ← expr c (deepest c) 4 second
  Some ((found.0, (found.1, found.2, b)), rest)

abbrev pub shut_by : ℕ → List Lexeme → ℕ × List Lexeme → Option (List Lexeme) → ℕ × List Lexeme
shut_by held ts fewer None = (suc held, ts)
shut_by held ts fewer (Some rest) = fewer

-- as many of the open parentheses as close here
unfoldable pub shut : ℕ → List Lexeme → ℕ × List Lexeme
shut zero ts = (0, ts)
shut (suc held) [] = (suc held, [])
shut (suc held) (x ∷ ts) = shut_by held (x ∷ ts) (shut held ts) (expect s.CloseParen (x ∷ ts))

module _ (c : Rules) where
  abbrev pub ended : ℕ → List PlainTest → List Lexeme → Read (List PlainTest)
  ended zero us ts = Some (us, ts)
  ended (suc held) us ts = None

  abbrev pub after_by : (ℕ → List PlainTest → List Lexeme → Read (List PlainTest)) → ℕ → List PlainTest → List Lexeme → Option (List Lexeme) → Read (List PlainTest)
  after_by go held us ts None = ended held us ts
  after_by go held us ts (Some second) = go held us second

  -- behind a comparison
  abbrev pub after : (ℕ → List PlainTest → List Lexeme → Read (List PlainTest)) → ℕ × List Lexeme → List PlainTest → Read (List PlainTest)
  after go o us = after_by go o.0 us o.1 (expect s.AndAnd o.1)

  -- With so many open parentheses, and behind the tests that were read.
  unfoldable pub conds : ℕ → ℕ → List PlainTest → List Lexeme → Read (List PlainTest)
  conds zero held us ts = None
  conds (suc n) held us ts = do
    (found, rest) ← compare c ts
    after (conds n) (shut (found.0 + held) rest) (us ++ found.1 ∷ [])

abbrev pub all_read : {A : Type 0} → A → List Lexeme → Option A
all_read u [] = Some u
all_read u (x ∷ ts) = None

unfoldable pub whole : Rules → List Lexeme → Option PlainExpr
whole c ts = do
  (u, rest) ← expr c (deepest c) 1 ts
  all_read u rest

unfoldable pub whole_cond : Rules → List Lexeme → Option (List PlainTest)
whole_cond c ts = do
  (us, rest) ← conds c c.turns 0 [] ts
  all_read us rest
