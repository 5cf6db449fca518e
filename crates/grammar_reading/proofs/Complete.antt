-- What is in the grammar is read: steps.
use Rattle.std.proofs.Common.{◌≡◌, ℕ, zero, suc, ◌+◌, ◌-◌, ◌<◌, ◌≤◌, List, [], ◌∷◌, length, Bool, Option, Some, None, option_and_then, refl, sym, ap, ◌∙◌, arith}
use Rattle.std.proofs.lemmas.Bool.{lt-ltb, le-ltb}
use Rattle.std.proofs.lemmas.Option.{some_pair_parts}
use Rattle.c_tree.specs.declared.expr.Rel.{Rel}
use Rattle.c_tree.specs.declared.expr.Rel.TheVariants as r
use Rattle.c_tree.specs.declared.expr.UnOp.{UnOp}
use Rattle.c_tree.specs.declared.expr.UnOp.TheVariants.{Neg, Inv}
use Rattle.c_tree.specs.declared.expr.BinOp.{BinOp}
use Rattle.c_tree.specs.declared.expr.BinOp.TheVariants as o
use Rattle.c_tree.specs.Plain.{PlainExpr, bin, PlainExprs}
use Rattle.c_tree.specs.declared.symbol.Symbol.{Symbol}
use Rattle.c_tree.specs.declared.symbol.Symbol.TheVariants as s
use Rattle.c_tree.specs.Grammar.Lexemes as t
use Rattle.c_tree.specs.Grammar.Lexemes.{Lexeme}
use Rattle.c_tree.specs.Grammar.Tables.{level, mark, un_mark, rel_mark, Call, call_min, call_max, call_least, call_greatest, call_word}
use Rattle.c_tree.specs.Grammar.Expressions as g
use Rattle.c_tree.specs.Grammar.Expressions.{height, heights, IsExpr, IsCells}
use Rattle.grammar_reading.specs.declared.rules.Rules.{Rules}
use Rattle.grammar_reading.specs.Reading.{Read, same, expect, operator, front_op, operand, climb, climb_by, close, closes, paren, opens, opens_by, expr, lower}
use Rattle.grammar_reading.proofs.StepLemmas.{bind_is, expect_is, expect_self, fits, operator-mark, level_bounds}
use Rattle.grammar_reading.proofs.Sound.{op_level, at_most_six, paren_is}

-- ---- what may follow

-- how tightly the front binds to what stands before it
abbrev pub binds : Symbol → ℕ
binds s.OpenBracket = 8
binds j = op_level (operator j)

abbrev pub front_binds : List Lexeme → ℕ
front_binds [] = 0
front_binds (t.name x ∷ ts) = 0
front_binds (t.number n ∷ ts) = 0
front_binds (t.symbol j ∷ ts) = binds j

op_le_sign : (j : Symbol) → op_level (operator j) ≤ binds j
op_le_sign s.OpenBracket = omega arith
op_le_sign j = omega arith

pub op_le : (ts : List Lexeme) → op_level (front_op ts) ≤ front_binds ts
op_le [] = omega arith
op_le (t.name x ∷ ts) = omega arith
op_le (t.number n ∷ ts) = omega arith
op_le (t.symbol j ∷ ts) = op_le_sign j

no_cell_sign : (j : Symbol) (ts : List Lexeme) → binds j ≤ 7 → expect s.OpenBracket (t.symbol j ∷ ts) ≡ None
unfolding expect same
no_cell_sign s.OpenBracket ts h = absurd (let no : ⊥ = omega arith in no)
no_cell_sign _ ts h = refl

pub no_cell : (ts : List Lexeme) → front_binds ts ≤ 7 → expect s.OpenBracket ts ≡ None
unfolding expect same
no_cell [] h = refl
no_cell (t.name x ∷ ts) h = refl
no_cell (t.number n ∷ ts) h = refl
no_cell (t.symbol j ∷ ts) h = no_cell_sign j ts h

pub binds-mark : (op : BinOp) → binds (mark op) ≡ level op
binds-mark o.Add = refl
binds-mark o.Sub = refl
binds-mark o.Mul = refl
binds-mark o.Div = refl
binds-mark o.Rem = refl
binds-mark o.Shl = refl
binds-mark o.Shr = refl
binds-mark o.And = refl
binds-mark o.Xor = refl
binds-mark o.Or = refl

pub binds-rel : (rel : Rel) → binds (rel_mark rel) ≡ 0
binds-rel rel = by rel
  where
    by : (rel : Rel) → binds (rel_mark rel) ≡ 0
    by r.Lt = refl
    by r.Le = refl
    by r.Gt = refl
    by r.Ge = refl
    by r.Eq = refl
    by r.Ne = refl

pub highest : {p : Bool} {m : ℕ} {ts rest : List Lexeme} {u : PlainExpr} → IsExpr p m ts u rest → m ≤ 7
highest (g.tighter d) = omega (arith, highest d)
highest (g.binary op a b) = omega (arith, level_bounds op)
highest _ = omega arith

-- ---- the rest is shorter

mutual
  pub shorter : {p : Bool} {l : ℕ} {ts rest : List Lexeme} {u : PlainExpr} → IsExpr p l ts u rest → length rest < length ts
  shorter (g.tighter d) = shorter d
  shorter (g.binary op a b) = omega (arith, shorter a, shorter b)
  shorter (g.unary op d) = omega (arith, shorter d)
  shorter (g.as_word d) = omega (arith, shorter d)
  shorter (g.compared rel a b) = omega (arith, shorter a, shorter b)
  shorter (g.as_wide d) = omega (arith, shorter d)
  shorter (g.wide_literal high low) = omega arith
  shorter (g.literal n) = omega arith
  shorter (g.variable x) = omega arith
  shorter (g.cell_of x d) = omega (arith, shorter_cells d)
  shorter (g.enclosed d) = omega (arith, shorter d)
  shorter (g.call k may a b) = omega (arith, shorter a, shorter b)

  pub shorter_cells : {p : Bool} {ts rest : List Lexeme} {us : PlainExprs} → IsCells p ts us rest → length rest < length ts
  shorter_cells (g.last d) = omega (arith, shorter d)
  shorter_cells (g.next d others) = omega (arith, shorter d, shorter_cells others)

-- no expression begins with the type of a cast
pub call_no_type : (k : Call) (ts : List Lexeme) → (expect s.Uint64 (t.symbol (call_word k) ∷ ts) ≡ None) × (expect s.Unsigned (t.symbol (call_word k) ∷ ts) ≡ None) × (paren (t.symbol (call_word k) ∷ ts) ≡ None)
unfolding expect same paren
call_no_type call_min ts = (refl, refl, refl)
call_no_type call_max ts = (refl, refl, refl)
call_no_type call_least ts = (refl, refl, refl)
call_no_type call_greatest ts = (refl, refl, refl)

pub un_no_type : (op : UnOp) (ts : List Lexeme) → (expect s.Uint64 (t.symbol (un_mark op) ∷ ts) ≡ None) × (expect s.Unsigned (t.symbol (un_mark op) ∷ ts) ≡ None) × (paren (t.symbol (un_mark op) ∷ ts) ≡ None)
unfolding expect same paren
un_no_type Neg ts = (refl, refl, refl)
un_no_type Inv ts = (refl, refl, refl)

pub no_type : {p : Bool} {l : ℕ} {ts rest : List Lexeme} {u : PlainExpr} → IsExpr p l ts u rest → (expect s.Uint64 ts ≡ None) × (expect s.Unsigned ts ≡ None)
unfolding expect same
no_type (g.tighter d) = no_type d
no_type (g.binary op a b) = no_type a
no_type (g.unary {ts = ts} op d) = let q = un_no_type op ts in (q.0, q.1)
no_type (g.as_word d) = (refl, refl)
no_type (g.compared rel a b) = (refl, refl)
no_type (g.as_wide d) = (refl, refl)
no_type (g.wide_literal high low) = (refl, refl)
no_type (g.literal n) = (refl, refl)
no_type (g.variable x) = (refl, refl)
no_type (g.cell_of x d) = (refl, refl)
no_type (g.enclosed d) = (refl, refl)
no_type (g.call {ts = ts} k may a b) = let q = call_no_type k (t.symbol s.OpenParen ∷ ts) in (q.0, q.1)

pub cells_open : {p : Bool} {ts rest : List Lexeme} {us : PlainExprs} → IsCells p ts us rest → (inside : List Lexeme) × (expect s.OpenBracket ts ≡ Some inside)
cells_open (g.last {ts = ts} d) = (ts, expect_self s.OpenBracket ts)
cells_open (g.next {ts = ts} d others) = (ts, expect_self s.OpenBracket ts)

-- ---- the steps

stops_by : (c : Rules) (e : ℕ → List Lexeme → Read PlainExpr) (l : ℕ) (go : PlainExpr → List Lexeme → Read PlainExpr) (u : PlainExpr) (rest : List Lexeme) (r : Option BinOp) → op_level r < l → climb_by c e l go u rest r ≡ Some (u, rest)
stops_by c e l go u rest None lt = refl
stops_by c e l go u rest (Some op) lt = rw (lt-ltb (level op) l lt) refl

pub climb_stops : (c : Rules) (e : ℕ → List Lexeme → Read PlainExpr) (l k : ℕ) (u : PlainExpr) (rest : List Lexeme) → 0 < k → op_level (front_op rest) < l → climb c e l k u rest ≡ Some (u, rest)
unfolding climb
climb_stops c e l zero u rest pos below = absurd (let no : ⊥ = omega arith in no)
climb_stops c e l (suc k) u rest pos below = stops_by c e l (climb c e l k) u rest (front_op rest) below

pub climb_goes_on : (c : Rules) (e : ℕ → List Lexeme → Read PlainExpr) (l k : ℕ) (op : BinOp) (a b : PlainExpr) (after rest : List Lexeme) → l ≤ level op → e (suc (level op)) after ≡ Some (b, rest) → height (bin op a b) ≤ c.limit
    → climb c e l (suc k) a (t.symbol (mark op) ∷ after) ≡ climb c e l k (bin op a b) rest
unfolding climb
climb_goes_on c e l k op a b after rest le h low =
    rw (operator-mark op, le-ltb (level op) l le, h, fits c (bin op a b) rest low) refl

-- Reading from ts comes to u with what follows it still to be read.
abbrev pub Reaches : Rules → ℕ → ℕ → List Lexeme → PlainExpr → List Lexeme → Type 0
Reaches c n l ts u rest = (k : ℕ) × (length rest < k) × (expr c n l ts ≡ climb c (expr c (n - 1)) l k u rest)

abbrev pub head : Rules → ℕ → List Lexeme → Read PlainExpr
head c n = operand c (expr c n) (lower c n)

abbrev pub run : Rules → ℕ → ℕ → ℕ × List Lexeme → Read PlainExpr
run c n l o = option_and_then (λ (x : PlainExpr × List Lexeme). option_and_then (λ (y : PlainExpr × List Lexeme). climb c (expr c n) l c.turns y.0 y.1) (closes c (expr c n) o.0 x.0 x.1)) (head c n o.1)

pub expr_is : (c : Rules) (n l : ℕ) (ts : List Lexeme) → 0 < n → expr c n l ts ≡ run c (n - 1) l (opens ts)
unfolding expr
expr_is c zero l ts pos = absurd (let no : ⊥ = omega arith in no)
expr_is c (suc n) l ts pos = let e : n ≡ suc n - 1 = omega arith in ap (λ d. run c d l (opens ts)) e

pub expr_at : (c : Rules) (n l : ℕ) (ts : List Lexeme) (count : ℕ) (inside : List Lexeme) → 0 < n → count ≡ (opens ts).0 → inside ≡ (opens ts).1 → expr c n l ts ≡ run c (n - 1) l (count, inside)
expr_at c n l ts count inside pos e f = expr_is c n l ts pos ∙ ap (λ (k : ℕ). run c (n - 1) l (k, (opens ts).1)) (sym e) ∙ ap (λ z. run c (n - 1) l (count, z)) (sym f)

pub no_parens : (ts : List Lexeme) → paren ts ≡ None → opens ts ≡ (0, ts)
unfolding opens
no_parens [] h = refl
no_parens (x ∷ ts) h = ap (opens_by (x ∷ ts) (opens ts)) h

paren_tail : (x : Lexeme) (ts inside : List Lexeme) → x ∷ ts ≡ t.symbol s.OpenParen ∷ inside → ts ≡ inside
paren_tail x ts inside h = cc

no_paren_here : (inside : List Lexeme) → paren [] ≡ Some inside → ⊥
unfolding paren expect
no_paren_here inside h = cc

pub more_parens : (ts inside : List Lexeme) → paren ts ≡ Some inside → opens ts ≡ (suc (opens inside).0, (opens inside).1)
unfolding opens
more_parens [] inside h = absurd (no_paren_here inside h)
more_parens (x ∷ ts) inside h = rw h (ap (λ z. (suc (opens z).0, (opens z).1)) (paren_tail x ts inside (shown (x ∷ ts) inside h)))
  where
    shown : (zs inside : List Lexeme) → paren zs ≡ Some inside → zs ≡ t.symbol s.OpenParen ∷ inside
    shown = paren_is

pub count_more : (whole : ℕ × List Lexeme) (count : ℕ) (rest inside : List Lexeme) → whole ≡ (count + (opens rest).0, (opens rest).1) → paren rest ≡ Some inside → whole ≡ (count + 1 + (opens inside).0, (opens inside).1)
count_more whole count rest inside h is =
    let e : count + suc (opens inside).0 ≡ count + 1 + (opens inside).0 = omega arith in
    h ∙ ap (λ (o : ℕ × List Lexeme). (count + o.0, o.1)) (more_parens rest inside is) ∙ ap (λ (k : ℕ). (k, (opens inside).1)) e

pub count_done : (whole : ℕ × List Lexeme) (count : ℕ) (rest : List Lexeme) → whole ≡ (count + (opens rest).0, (opens rest).1) → paren rest ≡ None → (count, rest) ≡ whole
count_done whole count rest h is =
    let e : count + 0 ≡ count = omega arith in
    sym (h ∙ ap (λ (o : ℕ × List Lexeme). (count + o.0, o.1)) (no_parens rest is) ∙ ap (λ (k : ℕ). (k, rest)) e)

pub paren_opens : (ts : List Lexeme) → expect s.Uint64 ts ≡ None → expect s.Unsigned ts ≡ None → paren (t.symbol s.OpenParen ∷ ts) ≡ Some ts
unfolding paren
paren_opens ts h k = rw (expect_self s.OpenParen ts, h, k) refl

pub first : (c : Rules) (n l : ℕ) (ts rest : List Lexeme) (u : PlainExpr) → 0 < n → length rest < c.turns → paren ts ≡ None → head c (n - 1) ts ≡ Some (u, rest) → Reaches c n l ts u rest
unfolding closes
first c n l ts rest u room turns bare h = (c.turns, turns, expr_is c n l ts room ∙ ap (run c (n - 1) l) (no_parens ts bare) ∙ rw h refl)

pub finish : (c : Rules) (n l : ℕ) (ts rest : List Lexeme) (u : PlainExpr) → op_level (front_op rest) < l → Reaches c n l ts u rest → expr c n l ts ≡ Some (u, rest)
finish c n l ts rest u below (k, left, h) = h ∙ climb_stops c (expr c (n - 1)) l k u rest (omega arith) below

-- the last of the parentheses, in place of the first
unit : (r : Read PlainExpr) → option_and_then (λ (y : PlainExpr × List Lexeme). Some (y.0, y.1)) r ≡ r
unit None = refl
unit (Some y) = refl

module _ (c : Rules) (e : ℕ → List Lexeme → Read PlainExpr) where
  under : (r : Read PlainExpr) (f g : PlainExpr → List Lexeme → Read PlainExpr) → ((u : PlainExpr) (ts : List Lexeme) → f u ts ≡ g u ts) → option_and_then (λ (y : PlainExpr × List Lexeme). f y.0 y.1) r ≡ option_and_then (λ (y : PlainExpr × List Lexeme). g y.0 y.1) r
  under None f g h = refl
  under (Some y) f g h = h y.0 y.1

  again : (r : Read PlainExpr) (f g : PlainExpr → List Lexeme → Read PlainExpr) → option_and_then (λ (y : PlainExpr × List Lexeme). g y.0 y.1) (option_and_then (λ (y : PlainExpr × List Lexeme). f y.0 y.1) r) ≡ option_and_then (λ (y : PlainExpr × List Lexeme). option_and_then (λ (z : PlainExpr × List Lexeme). g z.0 z.1) (f y.0 y.1)) r
  again None f g = refl
  again (Some y) f g = refl

  pub last_close : (k : ℕ) (v : PlainExpr) (ts : List Lexeme) → closes c e (suc k) v ts ≡ option_and_then (λ (y : PlainExpr × List Lexeme). close c e y.0 y.1) (closes c e k v ts)
  unfolding closes
  last_close zero v ts = unit (close c e v ts)
  last_close (suc k) v ts = under (close c e v ts) (closes c e (suc k)) (λ u r. option_and_then (λ (y : PlainExpr × List Lexeme). close c e y.0 y.1) (closes c e k u r)) (last_close k) ∙ sym (again (close c e v ts) (closes c e k) (close c e))

  -- past the closing parenthesis
  pub past : ℕ → PlainExpr × List Lexeme → Read PlainExpr
  past l z = option_and_then (λ (r : List Lexeme). climb c e l c.turns z.0 r) (expect s.CloseParen z.1)

  close_past : (l : ℕ) (r : Read PlainExpr) → option_and_then (λ (y : PlainExpr × List Lexeme). climb c e l c.turns y.0 y.1) (option_and_then (λ (z : PlainExpr × List Lexeme). option_and_then (λ (r : List Lexeme). Some (z.0, r)) (expect s.CloseParen z.1)) r) ≡ option_and_then (past l) r
  unfolding past
  close_past l None = refl
  close_past l (Some z) = at (expect s.CloseParen z.1)
    where
      at : (o : Option (List Lexeme)) → option_and_then (λ (y : PlainExpr × List Lexeme). climb c e l c.turns y.0 y.1) (option_and_then (λ (r : List Lexeme). Some (z.0, r)) o) ≡ option_and_then (λ (r : List Lexeme). climb c e l c.turns z.0 r) o
      at None = refl
      at (Some r) = refl

  closed_by : (l : ℕ) (y : PlainExpr × List Lexeme) → option_and_then (λ (y : PlainExpr × List Lexeme). climb c e l c.turns y.0 y.1) (close c e y.0 y.1) ≡ option_and_then (past l) (climb c e 1 c.turns y.0 y.1)
  unfolding close
  closed_by l y = close_past l (climb c e 1 c.turns y.0 y.1)

  by_closes : (l : ℕ) (r : Read PlainExpr) → option_and_then (λ (y : PlainExpr × List Lexeme). climb c e l c.turns y.0 y.1) (option_and_then (λ (y : PlainExpr × List Lexeme). close c e y.0 y.1) r) ≡ option_and_then (past l) (option_and_then (λ (y : PlainExpr × List Lexeme). climb c e 1 c.turns y.0 y.1) r)
  by_closes l None = refl
  by_closes l (Some y) = closed_by l y

  pub by_operand : (l k : ℕ) (r : Read PlainExpr) → option_and_then (λ (x : PlainExpr × List Lexeme). option_and_then (λ (y : PlainExpr × List Lexeme). climb c e l c.turns y.0 y.1) (closes c e (suc k) x.0 x.1)) r
      ≡ option_and_then (past l) (option_and_then (λ (x : PlainExpr × List Lexeme). option_and_then (λ (y : PlainExpr × List Lexeme). climb c e 1 c.turns y.0 y.1) (closes c e k x.0 x.1)) r)
  by_operand l k None = refl
  by_operand l k (Some x) = ap (option_and_then _) (last_close k x.0 x.1) ∙ by_closes l (closes c e k x.0 x.1)

-- an opening parenthesis is read as the grammar says
through : (c : Rules) (n l : ℕ) (ts inside : List Lexeme) → 0 < n → paren ts ≡ Some inside → expr c n l ts ≡ option_and_then (past c (expr c (n - 1)) l) (expr c n 1 inside)
through c n l ts inside pos is =
    expr_is c n l ts pos ∙ ap (run c (n - 1) l) (more_parens ts inside is) ∙ by_operand c (expr c (n - 1)) l (opens inside).0 (head c (n - 1) (opens inside).1)
    ∙ ap (option_and_then (past c (expr c (n - 1)) l)) (sym (expr_is c n 1 inside pos))

pub opened : (c : Rules) (n l : ℕ) (ts rest : List Lexeme) (u : PlainExpr) → 0 < n → length rest < c.turns → paren (t.symbol s.OpenParen ∷ ts) ≡ Some ts → expr c n 1 ts ≡ Some (u, t.symbol s.CloseParen ∷ rest) → Reaches c n l (t.symbol s.OpenParen ∷ ts) u rest
unfolding past
opened c n l ts rest u pos turns other h =
    (c.turns, turns, through c n l (t.symbol s.OpenParen ∷ ts) ts pos other ∙ ap (option_and_then (past c (expr c (n - 1)) l)) h ∙ ap (option_and_then _) (expect_self s.CloseParen rest))

-- what stands in the parentheses, where an operand in parentheses was read
pub inside_read : (c : Rules) (n : ℕ) (ts inside rest : List Lexeme) (u : PlainExpr) → 0 < n → 0 < c.turns → paren ts ≡ Some inside → expr c n 7 ts ≡ Some (u, rest) → expr c n 1 inside ≡ Some (u, t.symbol s.CloseParen ∷ rest)
unfolding past
inside_read c n ts inside rest u pos turns is h =
    let (z, h1, h2) = bind_is _ (expr c n 1 inside) (u, rest) (sym (through c n 7 ts inside pos is) ∙ h) in
    let (r, h3, h4) = bind_is _ (expect s.CloseParen z.1) (u, rest) h2 in
    let q = some_pair_parts z.0 u r rest (sym (climb_stops c (expr c (n - 1)) 7 c.turns z.0 r turns (omega (arith, at_most_six (front_op r)))) ∙ h4) in
    h1 ∙ ap (λ (v : PlainExpr). Some (v, z.1)) q.0 ∙ ap (λ (y : List Lexeme). Some (u, y)) (expect_is s.CloseParen z.1 r h3 ∙ ap (λ y. t.symbol s.CloseParen ∷ y) q.1)
