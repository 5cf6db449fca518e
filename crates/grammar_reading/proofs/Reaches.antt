-- Whatever is in the grammar is read.
use Rattle.std.proofs.Common.{◌≡◌, ℕ, zero, suc, ◌-◌, ◌<◌, ◌≤◌, max, List, ◌∷◌, length, Bool, true, cond, Option, Some, None, option_and_then, refl, sym, ap, ◌∙◌, arith}
use Rattle.std.proofs.lemmas.Option.{some_pair_parts}
use Rattle.c_tree.specs.declared.expr.Rel.{Rel}
use Rattle.c_tree.specs.declared.expr.UnOp.{UnOp}
use Rattle.c_tree.specs.declared.expr.UnOp.TheVariants.{Neg, Inv}
use Rattle.c_tree.specs.declared.expr.BinOp.{BinOp}
use Rattle.c_tree.specs.Plain.{Word, PlainExpr, lit, var, cell, un, bin, cast, test, umin, umax, least, greatest, widen, big, PlainExprs, no_exprs, more_exprs}
use Rattle.c_tree.specs.declared.symbol.Symbol.TheVariants as s
use Rattle.c_tree.specs.Grammar.Lexemes as t
use Rattle.c_tree.specs.Grammar.Lexemes.{Lexeme}
use Rattle.c_tree.specs.Grammar.Tables.{level, mark, un_mark, rel_mark, Call, call_min, call_max, call_least, call_greatest, call_word, called, allowed}
use Rattle.c_tree.specs.Grammar.Expressions as g
use Rattle.c_tree.specs.Grammar.Expressions.{height, heights, IsExpr, IsCells}
use Rattle.grammar_reading.specs.declared.rules.Rules.{Rules}
use Rattle.grammar_reading.specs.Reading.{Read, expect, number_at, node, same, front_op, front_rel, one_cell, cells, cells_by, two, call, wide_parts, grouped, grouped_by, cast_by, word_cast, wide_parts_cast, converted_by, named_by, operand, climb, close, closes, paren, opens, expr, lower}
use Rattle.grammar_reading.proofs.StepLemmas.{bind_is, expect_self, fits, no_operator, front_rel_is, relation-mark, level_bounds}
use Rattle.grammar_reading.proofs.Sound.{op_level, at_most_six, expr_sound, lower_sound, operand_sound, closes_sound, opens_is, paren_is, from}
use Rattle.grammar_reading.proofs.Complete.{front_binds, op_le, no_cell, binds-mark, binds-rel, highest, shorter, shorter_cells, call_no_type, un_no_type, no_type, cells_open, climb_stops, climb_goes_on, Reaches, head, expr_is, paren_opens, first, finish, opened, inside_read}
use Rattle.grammar_reading.proofs.TwoStages.{stages}

-- ---- up to a comparison, and on

pub shrinks : (c : Rules) (n l : ℕ) (ts : List Lexeme) (x : PlainExpr × List Lexeme) → 1 ≤ l → l ≤ 7 → expr c n l ts ≡ Some x → length x.1 < length ts
shrinks c n l ts x pos top h = shorter ((expr_sound c n).found l ts x.1 x.0 pos top h).0

abbrev climbs : Rules → ℕ → ℕ → Read PlainExpr → Read PlainExpr
climbs c n l r = option_and_then (λ (y : PlainExpr × List Lexeme). climb c (expr c n) l c.turns y.0 y.1) r

-- reading to the level 1 is reading to the level 4 and going on
pub staged : (c : Rules) (n : ℕ) (ts : List Lexeme) → 0 < n → length ts < c.turns → expr c n 1 ts ≡ climbs c (n - 1) 1 (expr c n 4 ts)
staged c n ts pos turns =
    expr_is c n 1 ts pos ∙ by_operand (head c (n - 1) (opens ts).1) refl ∙ sym (ap (climbs c (n - 1) 1) (expr_is c n 4 ts pos))
  where
    e : ℕ → List Lexeme → Read PlainExpr
    e = expr c (n - 1)

    by_closes : (x : PlainExpr × List Lexeme) → head c (n - 1) (opens ts).1 ≡ Some x → (r : Read PlainExpr) → closes c (expr c (n - 1)) (opens ts).0 x.0 x.1 ≡ r → climbs c (n - 1) 1 r ≡ climbs c (n - 1) 1 (climbs c (n - 1) 4 r)
    by_closes x is None k = refl
    by_closes x is (Some y) k =
        let one = operand_sound c (expr c (n - 1)) (expr_sound c (n - 1)) (lower c (n - 1)) (lower_sound c (n - 1)) (opens ts).1 x.1 x.0 is in
        let all = from c.printed 7 _ ts y.1 y.0 (opens_is ts) (closes_sound c (expr c (n - 1)) (expr_sound c (n - 1)) (opens ts).0 (opens ts).1 x.1 y.1 x.0 y.0 one k) in
        stages c (expr c (n - 1)) (shrinks c (n - 1)) 1 4 c.turns y.0 y.1 (omega arith) (omega (arith, shorter all)) (omega (arith, shorter all))

    by_operand : (r : Read PlainExpr) → head c (n - 1) (opens ts).1 ≡ r
        → option_and_then (λ (x : PlainExpr × List Lexeme). climbs c (n - 1) 1 (closes c (expr c (n - 1)) (opens ts).0 x.0 x.1)) r
        ≡ climbs c (n - 1) 1 (option_and_then (λ (x : PlainExpr × List Lexeme). climbs c (n - 1) 4 (closes c (expr c (n - 1)) (opens ts).0 x.0 x.1)) r)
    by_operand None is = refl
    by_operand (Some x) is = by_closes x is (closes c (expr c (n - 1)) (opens ts).0 x.0 x.1) refl

pub rel_no_op : (ts : List Lexeme) (rel : Rel) → front_rel ts ≡ Some rel → front_op ts ≡ None
rel_no_op ts rel h = ap front_op (front_rel_is ts rel h) ∙ no_operator rel

unsigned_no_word : (ts : List Lexeme) → expect s.Uint64 (t.symbol s.Unsigned ∷ ts) ≡ None
unfolding expect same
unsigned_no_word ts = refl

pub lower_is : (c : Rules) (n : ℕ) → 0 < n → lower c n ≡ expr c (n - 1)
unfolding expr
lower_is c zero pos = absurd (let no : ⊥ = omega arith in no)
lower_is c (suc n) pos = let e : n ≡ suc n - 1 = omega arith in ap (expr c) e

pub deep : (c : Rules) (n l : ℕ) (ts : List Lexeme) (x : PlainExpr × List Lexeme) → expr c n l ts ≡ Some x → 0 < n
unfolding expr
deep c zero l ts x h = absurd (let no : ⊥ = cc in no)
deep c (suc n) l ts x h = omega arith

pub close_read : (c : Rules) (e : ℕ → List Lexeme → Read PlainExpr) (a u : PlainExpr) (ts rest : List Lexeme) → climb c e 1 c.turns a ts ≡ Some (u, t.symbol s.CloseParen ∷ rest) → close c e a ts ≡ Some (u, rest)
unfolding close
close_read c e a u ts rest h = ap (option_and_then _) h ∙ ap (option_and_then _) (expect_self s.CloseParen rest)

-- ---- the operands

module _ (c : Rules) where
  unary_read : (n : ℕ) (op : UnOp) (ts rest : List Lexeme) (u : PlainExpr) → expr c n 7 ts ≡ Some (u, rest) → height (un op u) ≤ c.limit → head c n (t.symbol (un_mark op) ∷ ts) ≡ Some (un op u, rest)
  unfolding operand
  unary_read n Neg ts rest u h low = ap (option_and_then _) h ∙ fits c (un Neg u) rest low
  unary_read n Inv ts rest u h low = ap (option_and_then _) h ∙ fits c (un Inv u) rest low

  as_wide_read : (n : ℕ) (ts rest : List Lexeme) (u : PlainExpr) → c.printed ≡ true → expr c n 7 ts ≡ Some (u, rest) → height (widen u) ≤ c.limit
      → head c n (t.symbol s.OpenParen ∷ t.symbol s.Unsigned ∷ t.symbol s.Int128 ∷ t.symbol s.CloseParen ∷ ts) ≡ Some (widen u, rest)
  unfolding operand wide_parts_cast
  as_wide_read n ts rest u is h low =
      ap (converted_by c (expr c n) (lower c n) _) (unsigned_no_word _) ∙ ap (λ b. cond b (wide_parts_cast c (expr c n) (t.symbol s.Unsigned ∷ t.symbol s.Int128 ∷ t.symbol s.CloseParen ∷ ts)) None) is
      ∙ ap (option_and_then _) (expect_self s.Unsigned _) ∙ ap (option_and_then _) (expect_self s.Int128 _) ∙ ap (option_and_then _) (expect_self s.CloseParen ts) ∙ ap (option_and_then _) h ∙ fits c (widen u) rest low

  wide_read : (n high low : ℕ) (rest : List Lexeme) → c.printed ≡ true → head c n (t.symbol s.BalWide ∷ t.symbol s.OpenParen ∷ t.number high ∷ t.symbol s.Comma ∷ t.number low ∷ t.symbol s.CloseParen ∷ rest) ≡ Some (big high low, rest)
  unfolding operand wide_parts number_at
  wide_read n high low rest is =
      ap (λ b. cond b (wide_parts c (expr c n) (t.symbol s.OpenParen ∷ t.number high ∷ t.symbol s.Comma ∷ t.number low ∷ t.symbol s.CloseParen ∷ rest)) None) is
      ∙ ap (option_and_then _) (expect_self s.OpenParen _) ∙ ap (option_and_then _) (expect_self s.Comma _) ∙ ap (option_and_then _) (expect_self s.CloseParen rest)

  two_read : (n : ℕ) (k : Call) (ts after rest : List Lexeme) (a b : PlainExpr) → expr c n 1 ts ≡ Some (a, t.symbol s.Comma ∷ after) → expr c n 1 after ≡ Some (b, t.symbol s.CloseParen ∷ rest) → height (called k a b) ≤ c.limit
      → two c (expr c n) k (t.symbol s.OpenParen ∷ ts) ≡ Some (called k a b, rest)
  unfolding two
  two_read n k ts after rest a b h j low =
      ap (option_and_then _) (expect_self s.OpenParen ts) ∙ ap (option_and_then _) h ∙ ap (option_and_then _) (expect_self s.Comma after) ∙ ap (option_and_then _) j ∙ ap (option_and_then _) (expect_self s.CloseParen rest)
      ∙ fits c (called k a b) rest low

  signed_call : (n : ℕ) (k : Call) (ts : List Lexeme) → head c n (t.symbol (call_word k) ∷ ts) ≡ call c (expr c n) k ts
  unfolding operand
  signed_call n call_min ts = refl
  signed_call n call_max ts = refl
  signed_call n call_least ts = refl
  signed_call n call_greatest ts = refl

  call_read : (n : ℕ) (k : Call) (ts after rest : List Lexeme) (a b : PlainExpr) → allowed c.printed k ≡ true → expr c n 1 ts ≡ Some (a, t.symbol s.Comma ∷ after) → expr c n 1 after ≡ Some (b, t.symbol s.CloseParen ∷ rest) → height (called k a b) ≤ c.limit
      → head c n (t.symbol (call_word k) ∷ t.symbol s.OpenParen ∷ ts) ≡ Some (called k a b, rest)
  call_read n k ts after rest a b may h j low =
      signed_call n k (t.symbol s.OpenParen ∷ ts) ∙ ap (λ x. cond x (two c (expr c n) k (t.symbol s.OpenParen ∷ ts)) None) may ∙ two_read n k ts after rest a b h j low

  cast_read : (n : ℕ) (ts rest : List Lexeme) (u : PlainExpr) → cast_by c (expr c n) (lower c n) ts (paren ts) ≡ Some (u, rest) → head c n (t.symbol s.OpenParen ∷ t.symbol s.Uint64 ∷ t.symbol s.CloseParen ∷ ts) ≡ Some (u, rest)
  unfolding operand word_cast
  cast_read n ts rest u h = ap (converted_by c (expr c n) (lower c n) _) (expect_self s.Uint64 _) ∙ ap (option_and_then _) (expect_self s.CloseParen ts) ∙ h

  -- a comparison under a cast
  compared_read : (n : ℕ) (rel : Rel) (ts after rest : List Lexeme) (a b : PlainExpr) → paren (t.symbol s.OpenParen ∷ ts) ≡ Some ts → expr c n 4 ts ≡ Some (a, t.symbol (rel_mark rel) ∷ after) → expr c n 4 after ≡ Some (b, t.symbol s.CloseParen ∷ rest)
      → height (test rel a b) ≤ c.limit → cast_by c (expr c n) (lower c n) (t.symbol s.OpenParen ∷ ts) (paren (t.symbol s.OpenParen ∷ ts)) ≡ Some (test rel a b, rest)
  unfolding grouped
  compared_read n rel ts after rest a b is h j low =
      ap (cast_by c (expr c n) (lower c n) (t.symbol s.OpenParen ∷ ts)) is ∙ ap (option_and_then _) h ∙ ap (grouped_by c (expr c n) (lower c n) a (t.symbol (rel_mark rel) ∷ after)) (relation-mark rel)
      ∙ ap (option_and_then _) j ∙ ap (option_and_then _) (expect_self s.CloseParen rest) ∙ fits c (test rel a b) rest low

  -- an operand under a cast, in parentheses or not
  grouped_read : (n : ℕ) (inside rest : List Lexeme) (u : PlainExpr) → 0 < n → length inside < c.turns → expr c n 1 inside ≡ Some (u, t.symbol s.CloseParen ∷ rest) → height (cast u) ≤ c.limit → grouped c (expr c n) (lower c n) inside ≡ Some (cast u, rest)
  unfolding grouped
  grouped_read n inside rest u pos turns h low =
      let (x, h1, h2) = bind_is _ (expr c n 4 inside) (u, t.symbol s.CloseParen ∷ rest) (sym (staged c n inside pos turns) ∙ h) in
      ap (option_and_then _) h1 ∙ by x h2 (front_rel x.1) refl
    where
      no_rel : (rel : Rel) → front_rel (t.symbol s.CloseParen ∷ rest) ≡ Some rel → ⊥
      no_rel rel k = cc

      by : (x : PlainExpr × List Lexeme) → climb c (expr c (n - 1)) 1 c.turns x.0 x.1 ≡ Some (u, t.symbol s.CloseParen ∷ rest) → (r : Option Rel) → front_rel x.1 ≡ r → grouped_by c (expr c n) (lower c n) x.0 x.1 r ≡ Some (cast u, rest)
      by x k None is =
          ap (λ (e : ℕ → List Lexeme → Read PlainExpr). option_and_then (λ (y : PlainExpr × List Lexeme). node c (cast y.0) y.1) (close c e x.0 x.1)) (lower_is c n pos)
          ∙ ap (option_and_then _) (close_read c (expr c (n - 1)) x.0 u x.1 rest k) ∙ fits c (cast u) rest low
      by x k (Some rel) is =
          let q = some_pair_parts x.0 u x.1 (t.symbol s.CloseParen ∷ rest) (sym (climb_stops c (expr c (n - 1)) 1 c.turns x.0 x.1 (omega arith) (omega (arith, ap op_level (rel_no_op x.1 rel is)))) ∙ k) in
          absurd (no_rel rel (sym (ap front_rel q.1) ∙ is))

  -- a cast of an operand
  as_word_read : (n : ℕ) (ts rest : List Lexeme) (u : PlainExpr) → 0 < n → length ts < c.turns → expr c n 7 ts ≡ Some (u, rest) → height (cast u) ≤ c.limit → (r : Option (List Lexeme)) → paren ts ≡ r
      → cast_by c (expr c n) (lower c n) ts r ≡ Some (cast u, rest)
  as_word_read n ts rest u pos turns h low None is = ap (option_and_then _) h ∙ fits c (cast u) rest low
  as_word_read n ts rest u pos turns h low (Some inside) is =
      let less : length inside < length ts = omega (arith, ap length (paren_is ts inside is)) in
      grouped_read n inside rest u pos (omega arith) (inside_read c n ts inside rest u pos (omega arith) is h) low

  name_read : (n : ℕ) (x : Word) (rest : List Lexeme) → front_binds rest ≤ 7 → head c n (t.name x ∷ rest) ≡ Some (var x, rest)
  unfolding operand
  name_read n x rest low = ap (named_by c (expr c n) x rest) (no_cell rest low)

  cell_read : (n : ℕ) (x : Word) (ts rest inside : List Lexeme) (us : PlainExprs) → expect s.OpenBracket ts ≡ Some inside → cells c (expr c n) c.turns ts ≡ Some (us, rest) → height (cell x us) ≤ c.limit → head c n (t.name x ∷ ts) ≡ Some (cell x us, rest)
  unfolding operand
  cell_read n x ts rest inside us opens h low = ap (named_by c (expr c n) x ts) opens ∙ ap (option_and_then _) h ∙ fits c (cell x us) rest low

  literal_read : (n m : ℕ) (rest : List Lexeme) → head c n (t.number m ∷ rest) ≡ Some (lit m, rest)
  unfolding operand
  literal_read n m rest = refl

  one_read : (n : ℕ) (ts rest : List Lexeme) (u : PlainExpr) → expr c n 1 ts ≡ Some (u, t.symbol s.CloseBracket ∷ rest) → one_cell c (expr c n) (t.symbol s.OpenBracket ∷ ts) ≡ Some (u, rest)
  unfolding one_cell
  one_read n ts rest u h = ap (option_and_then _) (expect_self s.OpenBracket ts) ∙ ap (option_and_then _) h ∙ ap (option_and_then _) (expect_self s.CloseBracket rest)

  last_read : (n k : ℕ) (ts rest : List Lexeme) (u : PlainExpr) → 0 < k → expr c n 1 ts ≡ Some (u, t.symbol s.CloseBracket ∷ rest) → expect s.OpenBracket rest ≡ None → cells c (expr c n) k (t.symbol s.OpenBracket ∷ ts) ≡ Some (more_exprs u no_exprs, rest)
  unfolding cells
  last_read n zero ts rest u pos h no_more = absurd (let no : ⊥ = omega arith in no)
  last_read n (suc k) ts rest u pos h no_more =
      ap (option_and_then _) (one_read n ts rest u h) ∙ ap (cells_by c (expr c n) (cells c (expr c n) k) u rest) no_more

  next_read : (n k : ℕ) (ts after rest inside : List Lexeme) (u : PlainExpr) (us : PlainExprs) → 0 < k → expr c n 1 ts ≡ Some (u, t.symbol s.CloseBracket ∷ after) → expect s.OpenBracket after ≡ Some inside → cells c (expr c n) (k - 1) after ≡ Some (us, rest)
      → cells c (expr c n) k (t.symbol s.OpenBracket ∷ ts) ≡ Some (more_exprs u us, rest)
  unfolding cells
  next_read n zero ts after rest inside u us pos h opens others = absurd (let no : ⊥ = omega arith in no)
  next_read n (suc k) ts after rest inside u us pos h opens others =
      let e : k ≡ suc k - 1 = omega arith in
      ap (option_and_then _) (one_read n ts after u h) ∙ ap (cells_by c (expr c n) (cells c (expr c n) k) u after) opens
      ∙ ap (option_and_then _) (ap (λ j. cells c (expr c n) j after) e ∙ others)

-- a token that is no parenthesis is the first of the operand
name_front : (x : Word) (ts : List Lexeme) → paren (t.name x ∷ ts) ≡ None
unfolding paren expect
name_front x ts = refl

literal_front : (x : ℕ) (ts : List Lexeme) → paren (t.number x ∷ ts) ≡ None
unfolding paren expect
literal_front x ts = refl

wide_front : (ts : List Lexeme) → paren (t.symbol s.BalWide ∷ ts) ≡ None
unfolding paren expect same
wide_front ts = refl

cast_front : (ts : List Lexeme) → paren (t.symbol s.OpenParen ∷ t.symbol s.Uint64 ∷ ts) ≡ None
unfolding paren expect same
cast_front ts = refl

wide_cast_front : (ts : List Lexeme) → paren (t.symbol s.OpenParen ∷ t.symbol s.Unsigned ∷ ts) ≡ None
unfolding paren expect same
wide_cast_front ts = refl

pub some_height : (u : PlainExpr) → 1 ≤ height u
some_height (lit n) = omega arith
some_height (var x) = omega arith
some_height (cell x us) = omega arith
some_height (un op a) = omega arith
some_height (bin op a b) = omega arith
some_height (cast a) = omega arith
some_height (test r a b) = omega arith
some_height (umin a b) = omega arith
some_height (umax a b) = omega arith
some_height (least a b) = omega arith
some_height (greatest a b) = omega arith
some_height (widen a) = omega arith
some_height (big high low) = omega arith

called_height : (k : Call) (a b : PlainExpr) → height (called k a b) ≡ suc (max (height a) (height b))
called_height call_min a b = refl
called_height call_max a b = refl
called_height call_least a b = refl
called_height call_greatest a b = refl

-- ---- whatever is in the grammar

-- one more turn of the loop
turned : (c : Rules) (n l : ℕ) (op : BinOp) (ts after rest : List Lexeme) (a b : PlainExpr) → l ≤ level op → length rest < length after → Reaches c n l ts a (t.symbol (mark op) ∷ after) → expr c (n - 1) (suc (level op)) after ≡ Some (b, rest) → height (bin op a b) ≤ c.limit
    → Reaches c n l ts (bin op a b) rest
turned c n l op ts after rest a b le less (k, left, h) right low =
    let e : k ≡ suc (k - 1) = omega arith in
    let turn = climb_goes_on c (expr c (n - 1)) l (k - 1) op a b after rest le right low in
    (k - 1, omega arith, h ∙ ap (λ j. climb c (expr c (n - 1)) l j a (t.symbol (mark op) ∷ after)) e ∙ turn)

pub seven : (rest : List Lexeme) → op_level (front_op rest) < 7
seven rest = omega (arith, at_most_six (front_op rest))

printed_now : (c : Rules) (p : Bool) (k : Call) → c.printed ≡ p → allowed p k ≡ true → allowed c.printed k ≡ true
printed_now c p k e h = ap (λ b. allowed b k) e ∙ h

mutual
  pub reaches : {p : Bool} {m : ℕ} {ts rest : List Lexeme} {u : PlainExpr} → IsExpr p m ts u rest → (c : Rules) → c.printed ≡ p → (n l : ℕ) → length ts < c.turns → height u ≤ n → l ≤ m → m ≤ 7 → front_binds rest ≤ m → height u ≤ c.limit → Reaches c n l ts u rest
  reaches (g.tighter d) c is n l turns room le top ends low = reaches d c is n l turns room (omega arith) (highest d) (omega arith) low
  reaches {ts = ts} {rest = rest} (g.binary {after = after} {a = a} {b = b} op da db) c is n l turns room le top ends low =
      let first_part = reaches da c is n l turns (omega arith) le top (omega (arith, binds-mark op)) (omega arith) in
      let second_part = reaches db c is (n - 1) (suc (level op)) (omega (arith, shorter da)) (omega (arith, shorter da)) (omega arith) (omega (arith, level_bounds op)) (omega arith) (omega arith) in
      let right = finish c (n - 1) (suc (level op)) after rest b (omega (arith, op_le rest)) second_part in
      turned c n l op ts after rest a b le (shorter db) first_part right low
  reaches {rest = rest} (g.unary {ts = ts} {u = u} op d) c is n l turns room le top ends low =
      let inner = finish c (n - 1) 7 ts rest u (seven rest) (reaches d c is (n - 1) 7 (omega arith) (omega arith) (omega arith) (omega arith) ends (omega arith)) in
      first c n l (t.symbol (un_mark op) ∷ ts) rest (un op u) (omega arith) (omega (arith, shorter d)) (un_no_type op ts).2 (unary_read c (n - 1) op ts rest u inner low)
  reaches {rest = rest} (g.as_word {ts = ts} {u = u} d) c is n l turns room le top ends low =
      let inner = finish c (n - 1) 7 ts rest u (seven rest) (reaches d c is (n - 1) 7 (omega arith) (omega arith) (omega arith) (omega arith) ends (omega arith)) in
      first c n l (t.symbol s.OpenParen ∷ t.symbol s.Uint64 ∷ t.symbol s.CloseParen ∷ ts) rest (cast u) (omega arith) (omega (arith, shorter d)) (cast_front _)
      (cast_read c (n - 1) ts rest (cast u) (as_word_read c (n - 1) ts rest u (omega (arith, some_height u)) (omega arith) inner low (paren ts) refl))
  reaches {rest = rest} (g.compared {ts = ts} {after = after} {a = a} {b = b} rel da db) c is n l turns room le top ends low =
      let one = finish c (n - 1) 4 ts (t.symbol (rel_mark rel) ∷ after) a (omega (arith, ap op_level (no_operator rel)))
      (reaches da c is (n - 1) 4 (omega arith) (omega arith) (omega arith) (omega arith) (omega (arith, binds-rel rel)) (omega arith)) in
      let two = finish c (n - 1) 4 after (t.symbol s.CloseParen ∷ rest) b (omega arith) (reaches db c is (n - 1) 4 (omega (arith, shorter da)) (omega arith) (omega arith) (omega arith) (omega arith) (omega arith)) in
      let types = no_type da in
      first c n l (t.symbol s.OpenParen ∷ t.symbol s.Uint64 ∷ t.symbol s.CloseParen ∷ t.symbol s.OpenParen ∷ ts) rest (test rel a b) (omega arith) (omega (arith, shorter da, shorter db)) (cast_front _)
      (cast_read c (n - 1) (t.symbol s.OpenParen ∷ ts) rest (test rel a b) (compared_read c (n - 1) rel ts after rest a b (paren_opens ts types.0 types.1) one two low))
  reaches {rest = rest} (g.as_wide {ts = ts} {u = u} d) c is n l turns room le top ends low =
      let inner = finish c (n - 1) 7 ts rest u (seven rest) (reaches d c is (n - 1) 7 (omega arith) (omega arith) (omega arith) (omega arith) ends (omega arith)) in
      first c n l (t.symbol s.OpenParen ∷ t.symbol s.Unsigned ∷ t.symbol s.Int128 ∷ t.symbol s.CloseParen ∷ ts) rest (widen u) (omega arith) (omega (arith, shorter d)) (wide_cast_front _) (as_wide_read c (n - 1) ts rest u is inner low)
  reaches {rest = rest} (g.wide_literal high low_part) c is n l turns room le top ends low = first c n l _ rest (big high low_part) (omega arith) (omega arith) (wide_front _) (wide_read c (n - 1) high low_part rest is)
  reaches {rest = rest} (g.literal x) c is n l turns room le top ends low = first c n l (t.number x ∷ rest) rest (lit x) (omega arith) (omega arith) (literal_front x rest) (literal_read c (n - 1) x rest)
  reaches {rest = rest} (g.variable x) c is n l turns room le top ends low = first c n l (t.name x ∷ rest) rest (var x) (omega arith) (omega arith) (name_front x rest) (name_read c (n - 1) x rest ends)
  reaches {rest = rest} (g.cell_of {ts = ts} {us = us} x d) c is n l turns room le top ends low =
      let (inside, opens) = cells_open d in
      let inner = reaches_cells d c is (n - 1) c.turns (omega arith) (omega arith) (omega arith) ends low in
      first c n l (t.name x ∷ ts) rest (cell x us) (omega arith) (omega (arith, shorter_cells d)) (name_front x ts) (cell_read c (n - 1) x ts rest inside us opens inner low)
  reaches {rest = rest} (g.enclosed {ts = ts} {u = u} d) c is n l turns room le top ends low =
      let inner = finish c n 1 ts (t.symbol s.CloseParen ∷ rest) u (omega arith) (reaches d c is n 1 (omega arith) room (omega arith) (omega arith) (omega arith) low) in
      let types = no_type d in
      opened c n l ts rest u (omega (arith, some_height u)) (omega (arith, shorter d)) (paren_opens ts types.0 types.1) inner
  reaches {p = p} {rest = rest} (g.call {ts = ts} {after = after} {a = a} {b = b} k may da db) c is n l turns room le top ends low =
      let high = called_height k a b in
      let one = finish c (n - 1) 1 ts (t.symbol s.Comma ∷ after) a (omega arith) (reaches da c is (n - 1) 1 (omega arith) (omega arith) (omega arith) (omega arith) (omega arith) (omega arith)) in
      let two = finish c (n - 1) 1 after (t.symbol s.CloseParen ∷ rest) b (omega arith) (reaches db c is (n - 1) 1 (omega (arith, shorter da)) (omega arith) (omega arith) (omega arith) (omega arith) (omega arith)) in
      first c n l (t.symbol (call_word k) ∷ t.symbol s.OpenParen ∷ ts) rest (called k a b) (omega arith) (omega (arith, shorter da, shorter db)) (call_no_type k (t.symbol s.OpenParen ∷ ts)).2
      (call_read c (n - 1) k ts after rest a b (printed_now c p k is may) one two low)

  pub reaches_cells : {p : Bool} {ts rest : List Lexeme} {us : PlainExprs} → IsCells p ts us rest → (c : Rules) → c.printed ≡ p → (n k : ℕ) → length ts < c.turns → heights us ≤ n → length ts ≤ k → front_binds rest ≤ 7 → suc (heights us) ≤ c.limit → cells c (expr c n) k ts ≡ Some (us, rest)
  reaches_cells {rest = rest} (g.last {ts = ts} {u = u} d) c is n k few room turns ends low =
      let inner = finish c n 1 ts (t.symbol s.CloseBracket ∷ rest) u (omega arith) (reaches d c is n 1 (omega arith) (omega arith) (omega arith) (omega arith) (omega arith) (omega arith)) in
      last_read c n k ts rest u (omega arith) inner (no_cell rest ends)
  reaches_cells {rest = rest} (g.next {ts = ts} {after = after} {u = u} {us = us} d others) c is n k few room turns ends low =
      let (inside, opens) = cells_open others in
      let inner = finish c n 1 ts (t.symbol s.CloseBracket ∷ after) u (omega arith) (reaches d c is n 1 (omega arith) (omega arith) (omega arith) (omega arith) (omega arith) (omega arith)) in
      let more_inner = reaches_cells others c is n (k - 1) (omega (arith, shorter d)) (omega arith) (omega (arith, shorter d)) ends (omega arith) in
      next_read c n k ts after rest inside u us (omega arith) inner opens more_inner
