-- What spells an expression is one, whatever follows it.
use Rattle.std.proofs.Common.{◌≡◌, ℕ, suc, ◌≤◌, Bool, true, false, ◌||◌, List, ◌∷◌, refl, sym, subst, arith}
use Rattle.c_tree.specs.declared.expr.BinOp.{BinOp}
use Rattle.c_tree.specs.declared.expr.BinOp.TheVariants as o
use Rattle.c_tree.specs.Layout.{is_bin, is_un, is_loose}
use Rattle.c_tree.specs.Plain.{Word, PlainExpr, lit, var, cell, un, bin, cast, test, umin, umax, least, greatest, widen, big, PlainExprs, no_exprs, more_exprs}
use Rattle.c_tree.specs.declared.symbol.Symbol.TheVariants as s
use Rattle.c_tree.specs.Grammar.Lexemes as t
use Rattle.c_tree.specs.Grammar.Lexemes.{Lexeme}
use Rattle.c_tree.specs.Grammar.Tables.{level, mark, rel_mark, Call, call_word, call_min, call_max, call_least, call_greatest, allowed, called}
use Rattle.c_tree.specs.Grammar.Expressions as g
use Rattle.c_tree.specs.Grammar.Expressions.{IsExpr, IsCells, IsLow}
use Rattle.grammar_reading.proofs.StepLemmas.{level_bounds}
use Rattle.grammar_reading.proofs.Sound.{loosen}
use Rattle.layout_laws.specs.Spell.{enclosed, spell, spell_cells}
use Rattle.layout_laws.specs.Fine.{IsFine, AreFine}

call_fine : (p : Bool) (k : Call) (a b : PlainExpr) → allowed p k ≡ true → IsFine p a → IsFine p b → IsFine p (called k a b)
call_fine p call_min a b may f h = (f, h)
call_fine p call_max a b may f h = (f, h)
call_fine p call_least a b may f h = (may, f, h)
call_fine p call_greatest a b may f h = (may, f, h)

mutual
  pub fine : {p : Bool} {l : ℕ} {ts rest : List Lexeme} {u : PlainExpr} → IsExpr p l ts u rest → IsFine p u
  fine (g.tighter d) = fine d
  fine (g.binary op a b) = (fine a, fine b)
  fine (g.unary op d) = fine d
  fine (g.as_word d) = fine d
  fine (g.compared rel a b) = (fine a, fine b)
  fine (g.as_wide d) = (refl, fine d)
  fine (g.wide_literal high low) = refl
  fine (g.literal n) = tt
  fine (g.variable x) = tt
  fine (g.cell_of x d) = fine_cells x d
  fine (g.enclosed d) = fine d
  fine {p = p} (g.call {a = u} {b = v} k may a b) = call_fine p k u v may (fine a) (fine b)

  pub fine_cells : (x : Word) {p : Bool} {ts rest : List Lexeme} {us : PlainExprs} → IsCells p ts us rest → IsFine p (cell x us)
  fine_cells x (g.last d) = (fine d, tt)
  fine_cells x (g.next d others) = (fine d, all_fine others)

  all_fine : {p : Bool} {ts rest : List Lexeme} {us : PlainExprs} → IsCells p ts us rest → AreFine p us
  all_fine (g.last d) = (fine d, tt)
  all_fine (g.next d others) = (fine d, all_fine others)

abbrev pub level_of : PlainExpr → ℕ
level_of (bin op a b) = level op
level_of _ = 7

pub some_level : (u : PlainExpr) → 1 ≤ level_of u
some_level (bin op a b) = (level_bounds op).0
some_level (lit n) = omega arith
some_level (var x) = omega arith
some_level (cell x us) = omega arith
some_level (un op a) = omega arith
some_level (cast a) = omega arith
some_level (test rel a b) = omega arith
some_level (umin a b) = omega arith
some_level (umax a b) = omega arith
some_level (least a b) = omega arith
some_level (greatest a b) = omega arith
some_level (widen a) = omega arith
some_level (big high low) = omega arith

-- where it isn't in parentheses it is tight enough
abbrev pub Spells : Bool → PlainExpr → (List Lexeme → List Lexeme) → Type 0
Spells p u inner = (rest : List Lexeme) → IsExpr p (level_of u) (inner rest) u rest

pub within : (p b : Bool) (l : ℕ) (u : PlainExpr) (inner : List Lexeme → List Lexeme) → l ≤ 7 → (b ≡ false → l ≤ level_of u) → Spells p u inner → (rest : List Lexeme) → IsExpr p l (enclosed b inner rest) u rest
within p true l u inner top tight d rest = loosen p 7 l _ rest u top (g.enclosed (loosen p (level_of u) 1 _ (t.symbol s.CloseParen ∷ rest) u (some_level u) (d (t.symbol s.CloseParen ∷ rest))))
within p false l u inner top tight d rest = loosen p (level_of u) l _ rest u (tight refl) (d rest)

bin_tight : (u : PlainExpr) → is_bin u ≡ false → 7 ≤ level_of u
bin_tight (bin op a b) e = absurd (let no : ⊥ = cc in no)
bin_tight (lit n) e = omega arith
bin_tight (var x) e = omega arith
bin_tight (cell x us) e = omega arith
bin_tight (un op a) e = omega arith
bin_tight (cast a) e = omega arith
bin_tight (test rel a b) e = omega arith
bin_tight (umin a b) e = omega arith
bin_tight (umax a b) e = omega arith
bin_tight (least a b) e = omega arith
bin_tight (greatest a b) e = omega arith
bin_tight (widen a) e = omega arith
bin_tight (big high low) e = omega arith

un_tight : (u : PlainExpr) → (is_bin u || is_un u) ≡ false → 7 ≤ level_of u
un_tight (bin op a b) e = absurd (let no : ⊥ = cc in no)
un_tight (lit n) e = omega arith
un_tight (var x) e = omega arith
un_tight (cell x us) e = omega arith
un_tight (un op a) e = omega arith
un_tight (cast a) e = omega arith
un_tight (test rel a b) e = omega arith
un_tight (umin a b) e = omega arith
un_tight (umax a b) e = omega arith
un_tight (least a b) e = omega arith
un_tight (greatest a b) e = omega arith
un_tight (widen a) e = omega arith
un_tight (big high low) e = omega arith

op_tight : (op : BinOp) (a b : PlainExpr) → is_loose (bin op a b) ≡ false → 4 ≤ level op
op_tight o.Add a b e = omega arith
op_tight o.Sub a b e = omega arith
op_tight o.Mul a b e = omega arith
op_tight o.Div a b e = omega arith
op_tight o.Rem a b e = omega arith
op_tight o.Shl a b e = omega arith
op_tight o.Shr a b e = omega arith
op_tight o.And a b e = absurd (let no : ⊥ = cc in no)
op_tight o.Xor a b e = absurd (let no : ⊥ = cc in no)
op_tight o.Or a b e = absurd (let no : ⊥ = cc in no)

pub loose_tight : (u : PlainExpr) → is_loose u ≡ false → 4 ≤ level_of u
loose_tight (bin op a b) e = op_tight op a b e
loose_tight (lit n) e = omega arith
loose_tight (var x) e = omega arith
loose_tight (cell x us) e = omega arith
loose_tight (un op a) e = omega arith
loose_tight (cast a) e = omega arith
loose_tight (test rel a b) e = omega arith
loose_tight (umin a b) e = omega arith
loose_tight (umax a b) e = omega arith
loose_tight (least a b) e = omega arith
loose_tight (greatest a b) e = omega arith
loose_tight (widen a) e = omega arith
loose_tight (big high low) e = omega arith

at_printed : {l : ℕ} {ts rest : List Lexeme} {u : PlainExpr} (p : Bool) → p ≡ true → IsExpr true l ts u rest → IsExpr p l ts u rest
at_printed {l = l} {ts = ts} {rest = rest} {u = u} p e d = subst (λ b. IsExpr b l ts u rest) (sym e) d

in_printed : {l : ℕ} {ts rest : List Lexeme} {u : PlainExpr} (p : Bool) → p ≡ true → IsExpr p l ts u rest → IsExpr true l ts u rest
in_printed {l = l} {ts = ts} {rest = rest} {u = u} p e d = subst (λ b. IsExpr b l ts u rest) e d

two : (p : Bool) (k : Call) (a b : PlainExpr) → allowed p k ≡ true → Spells p a (spell a) → Spells p b (spell b) → (rest : List Lexeme) → IsExpr p 7 (t.symbol (call_word k) ∷ t.symbol s.OpenParen ∷ spell a (t.symbol s.Comma ∷ spell b (t.symbol s.CloseParen ∷ rest))) (called k a b) rest
two p k a b may da db rest = g.call k may (loosen p (level_of a) 1 _ _ a (some_level a) (da _)) (loosen p (level_of b) 1 _ _ b (some_level b) (db (t.symbol s.CloseParen ∷ rest)))

mutual
  pub spelled : (p : Bool) (u : PlainExpr) → IsFine p u → Spells p u (spell u)
  spelled p (lit n) f rest = g.literal n
  spelled p (var x) f rest = g.variable x
  spelled p (cell x us) f rest = g.cell_of x (spelled_cells p us x f rest)
  spelled p (un op a) f rest = g.unary op (within p (is_bin a || is_un a) 7 a (spell a) (omega arith) (un_tight a) (spelled p a f) rest)
  spelled p (bin op a b) f rest =
      let bounds = level_bounds op in
      g.binary op (within p (is_bin a) (level op) a (spell a) (omega arith) (λ e. let h = bin_tight a e in omega arith) (spelled p a f.0) (t.symbol (mark op) ∷ enclosed (is_bin b) (spell b) rest))
      (within p (is_bin b) (suc (level op)) b (spell b) (omega arith) (λ e. let h = bin_tight b e in omega arith) (spelled p b f.1) rest)
  spelled p (cast a) f rest = g.as_word (within p (is_bin a) 7 a (spell a) (omega arith) (bin_tight a) (spelled p a f) rest)
  spelled p (test rel a b) f rest =
      g.compared rel (within p (is_loose a) 4 a (spell a) (omega arith) (loose_tight a) (spelled p a f.0) (t.symbol (rel_mark rel) ∷ enclosed (is_loose b) (spell b) (t.symbol s.CloseParen ∷ rest)))
      (within p (is_loose b) 4 b (spell b) (omega arith) (loose_tight b) (spelled p b f.1) (t.symbol s.CloseParen ∷ rest))
  spelled p (umin a b) f rest = two p call_min a b refl (spelled p a f.0) (spelled p b f.1) rest
  spelled p (umax a b) f rest = two p call_max a b refl (spelled p a f.0) (spelled p b f.1) rest
  spelled p (least a b) f rest = two p call_least a b f.0 (spelled p a f.1) (spelled p b f.2) rest
  spelled p (greatest a b) f rest = two p call_greatest a b f.0 (spelled p a f.1) (spelled p b f.2) rest
  spelled p (widen a) f rest = at_printed p f.0 (g.as_wide (in_printed p f.0 (within p (is_bin a) 7 a (spell a) (omega arith) (bin_tight a) (spelled p a f.1) rest)))
  spelled p (big high low) f rest = at_printed p f (g.wide_literal high low)

  pub spelled_cells : (p : Bool) (us : PlainExprs) (x : Word) → IsFine p (cell x us) → (rest : List Lexeme) → IsCells p (spell_cells us rest) us rest
  spelled_cells p no_exprs x f rest = absurd f
  spelled_cells p (more_exprs u no_exprs) x f rest = g.last (loosen p (level_of u) 1 _ _ u (some_level u) (spelled p u f.0 (t.symbol s.CloseBracket ∷ rest)))
  spelled_cells p (more_exprs u (more_exprs v us)) x f rest =
      g.next (loosen p (level_of u) 1 _ _ u (some_level u) (spelled p u f.0 (t.symbol s.CloseBracket ∷ spell_cells (more_exprs v us) rest))) (spelled_cells p (more_exprs v us) x f.1 rest)
