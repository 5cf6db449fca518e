-- What is printed of an expression is read as its tokens.
use Rattle.std.proofs.Common.{◌≡◌, ℕ, ◌^◌, ◌<◌, Bool, true, false, ◌||◌, ◌==◌, List, [], ◌∷◌, ◌++◌, refl, ap, ◌∙◌}
use Rattle.std.specs.Prelude.{codes}
use Rattle.std.proofs.lemmas.Bool.{and_parts}
use Rattle.c_tree.specs.declared.expr.UnOp.{UnOp}
use Rattle.c_tree.specs.declared.expr.UnOp.TheVariants.{Neg, Inv}
use Rattle.c_tree.specs.Layout as l
use Rattle.c_tree.specs.Layout.{Scope, is_bin, is_un, is_loose, subscript_has_suffix}
use Rattle.c_tree.specs.Plain.{Word, PlainExpr, lit, var, cell, un, bin, cast, test, umin, umax, least, greatest, widen, big, PlainExprs, no_exprs, more_exprs}
use Rattle.c_tree.specs.declared.symbol.Symbol.TheVariants as s
use Rattle.c_tree.specs.Grammar.Lexemes as t
use Rattle.c_tree.specs.Grammar.Lexemes.{Lexeme}
use Rattle.c_tree.specs.Grammar.Tables.{un_mark}
use Rattle.layout_laws.specs.Spell.{enclosed, spell, spell_cells}
use Rattle.c_lexer.specs.declared.line.Line.TheVariants.{Middle}
use Rattle.c_tree.specs.Reserved.{is_word, is_word_byte}
use Rattle.layout_laws.proofs.Seen.{word_symbol, mark_symbol}
use Rattle.c_tree.specs.Grammar.Tokens.{Text, is_apart}
use Rattle.layout_laws.specs.Proper.{IsName, IsProper, AreProper}
use Rattle.c_printer.specs.Before.{within, literal_before, suffix_under, expr_before, subscripts_before}
use Rattle.layout_laws.proofs.Lexed.{Reads}
use Rattle.c_lexer.proofs.Forms.{letter_word}
use Rattle.layout_laws.proofs.Words.{name_in, pairs, other, turned}
use Rattle.layout_laws.proofs.Numbers.{plain_literal, long_literal, number_first}
use Rattle.layout_laws.proofs.Marks.{opens, closes, opens_cell, closes_cell, inverts, minus, comma, operator, relation, word_cast, wide_cast, called}

-- a name
pub a_name : {p : Bool} {rest : Text} {ts : List Lexeme} → (x : Text) → IsName p x → is_apart rest ≡ true → Reads p Middle rest ts → Reads p Middle (x ++ rest) (t.name x ∷ ts)
a_name x h e d = name_in Middle x h e d

pub a_number : {p : Bool} {rest : Text} {ts : List Lexeme} → (suffix : Bool) (n : ℕ) → n < 2 ^ 64 → is_apart rest ≡ true → Reads p Middle rest ts → Reads p Middle (literal_before suffix n rest) (t.number n ∷ ts)
a_number {p = p} {rest = rest} {ts = ts} true n h e d = long_literal p Middle n rest ts h e d
a_number {p = p} {rest = rest} {ts = ts} false n h e d = plain_literal p Middle n rest ts h e d

-- ---- what stands behind a `-`

abbrev pub is_first : ℕ → Bool
is_first b = is_word_byte b || b == 40

abbrev pub begins : Text → Bool
begins [] = false
begins (b ∷ z) = is_first b

unpaired : (z : Text) → begins z ≡ true → pairs 45 z ≡ false
unpaired [] h = refl
unpaired (c ∷ z) h = rw (other is_first c 61 h refl, turned c 45 (other is_first c 45 h refl)) refl

pub begins_word : (x rest : Text) → is_word x ≡ true → begins (x ++ rest) ≡ true
begins_word [] rest h = absurd (let never : ⊥ = cc in never)
begins_word (b ∷ x) rest h = ap (λ c. c || b == 40) (letter_word b (and_parts _ _ h).0)

pub begins_number : (suffix : Bool) (n : ℕ) (rest : Text) → n < 2 ^ 64 → begins (literal_before suffix n rest) ≡ true
begins_number true n rest h = let (b, z, e, k) = number_first n h in ap (λ y. begins (y ++ (codes "ull" ++ rest))) e ∙ ap (λ c. c || b == 40) k
begins_number false n rest h = let (b, z, e, k) = number_first n h in ap (λ y. begins (y ++ rest)) e ∙ ap (λ c. c || b == 40) k

begins_expr : (p : Bool) (sc : Scope) (suffix : Bool) (u : PlainExpr) (rest : Text) → IsProper p u → (is_bin u || is_un u) ≡ false → begins (expr_before sc suffix u rest) ≡ true
begins_expr p sc suffix (lit n) rest h e = begins_number suffix n rest h
begins_expr p sc suffix (var x) rest h e = begins_word x rest h.word
begins_expr p sc suffix (cell x us) rest h e = begins_word x (subscripts_before sc x us rest) h.0.word
begins_expr p sc suffix (un op a) rest h e = absurd (let never : ⊥ = cc in never)
begins_expr p sc suffix (bin op a b) rest h e = absurd (let never : ⊥ = cc in never)
begins_expr p sc suffix (cast a) rest h e = refl
begins_expr p sc suffix (test rel a b) rest h e = refl
begins_expr p sc suffix (umin a b) rest h e = refl
begins_expr p sc suffix (umax a b) rest h e = refl
begins_expr p sc suffix (least a b) rest h e = refl
begins_expr p sc suffix (greatest a b) rest h e = refl
begins_expr p sc suffix (widen a) rest h e = refl
begins_expr p sc suffix (big high low) rest h e = refl

begins_within : (p : Bool) (sc : Scope) (suffix : Bool) (u : PlainExpr) (rest : Text) (b : Bool) → IsProper p u → (is_bin u || is_un u) ≡ b → begins (within b (expr_before sc suffix u) rest) ≡ true
begins_within p sc suffix u rest true h e = refl
begins_within p sc suffix u rest false h e = begins_expr p sc suffix u rest h e

-- ---- expressions

-- the text that is printed before a rest is read as the tokens before its tokens
abbrev pub Prints : Bool → (Text → Text) → (List Lexeme → List Lexeme) → Type 0
Prints p text spelled = (rest : Text) (ts : List Lexeme) → is_apart rest ≡ true → Reads p Middle rest ts → Reads p Middle (text rest) (spelled ts)

pub in_parentheses : (p b : Bool) (text : Text → Text) (spelled : List Lexeme → List Lexeme) → Prints p text spelled → Prints p (within b text) (enclosed b spelled)
in_parentheses p true text spelled go rest ts e d = opens (go (41 ∷ rest) (t.symbol s.CloseParen ∷ ts) refl (closes d))
in_parentheses p false text spelled go rest ts e d = go rest ts e d

signed : {p : Bool} {rest : Text} {ts : List Lexeme} → (op : UnOp) → begins rest ≡ true → Reads p Middle rest ts → Reads p Middle (l.un_mark op ++ rest) (t.symbol (un_mark op) ∷ ts)
signed {rest = rest} Neg h d = minus (unpaired rest h) d
signed Inv h d = inverts d

mutual
  unfolding word_symbol mark_symbol

  pub prints : (p : Bool) (sc : Scope) (suffix : Bool) (u : PlainExpr) → IsProper p u → Prints p (expr_before sc suffix u) (spell u)
  prints p sc suffix (lit n) h rest ts e d = a_number suffix n h e d
  prints p sc suffix (var x) h rest ts e d = a_name x h e d
  prints p sc suffix (cell x us) h rest ts e d = a_name x h.0 (apart_cells sc x us rest e) (prints_cells p sc x us h.1 rest ts e d)
  prints p sc suffix (un op a) h rest ts e d =
      signed op (begins_within p sc suffix a rest (is_bin a || is_un a) h refl) (in_parentheses p (is_bin a || is_un a) (expr_before sc suffix a) (spell a) (prints p sc suffix a h) rest ts e d)
  prints p sc suffix (bin op a b) h rest ts e d =
      in_parentheses p (is_bin a) (expr_before sc suffix a) (spell a) (prints p sc suffix a h.0) _ _ refl (operator op (in_parentheses p (is_bin b) (expr_before sc suffix b) (spell b) (prints p sc suffix b h.1) rest ts e d))
  prints p sc suffix (cast a) h rest ts e d = word_cast (in_parentheses p (is_bin a) (expr_before sc (suffix_under sc a) a) (spell a) (prints p sc (suffix_under sc a) a h) rest ts e d)
  prints p sc suffix (test rel a b) h rest ts e d =
      word_cast (opens (in_parentheses p (is_loose a) (expr_before sc true a) (spell a) (prints p sc true a h.0) _ _ refl
      (relation rel (in_parentheses p (is_loose b) (expr_before sc true b) (spell b) (prints p sc true b h.1) (41 ∷ rest) (t.symbol s.CloseParen ∷ ts) refl (closes d)))))
  prints p sc suffix (umin a b) h rest ts e d = called p Middle (codes "umin") s.Umin _ _ refl refl refl refl (prints p sc true a h.0 _ _ refl (comma (prints p sc true b h.1 (41 ∷ rest) (t.symbol s.CloseParen ∷ ts) refl (closes d))))
  prints p sc suffix (umax a b) h rest ts e d = called p Middle (codes "umax") s.Umax _ _ refl refl refl refl (prints p sc true a h.0 _ _ refl (comma (prints p sc true b h.1 (41 ∷ rest) (t.symbol s.CloseParen ∷ ts) refl (closes d))))
  prints p sc suffix (least a b) h rest ts e d = called p Middle (codes "bal_min") s.BalMin _ _ refl refl refl refl (prints p sc false a h.0 _ _ refl (comma (prints p sc false b h.1 (41 ∷ rest) (t.symbol s.CloseParen ∷ ts) refl (closes d))))
  prints p sc suffix (greatest a b) h rest ts e d = called p Middle (codes "bal_max") s.BalMax _ _ refl refl refl refl (prints p sc false a h.0 _ _ refl (comma (prints p sc false b h.1 (41 ∷ rest) (t.symbol s.CloseParen ∷ ts) refl (closes d))))
  prints p sc suffix (widen a) h rest ts e d = wide_cast (in_parentheses p (is_bin a) (expr_before sc (suffix_under sc a) a) (spell a) (prints p sc (suffix_under sc a) a h) rest ts e d)
  prints p sc suffix (big high low) h rest ts e d = called p Middle (codes "bal_wide") s.BalWide _ _ refl refl refl refl (a_number true high h.0 refl (comma (a_number true low h.1 refl (closes d))))

  pub prints_cells : (p : Bool) (sc : Scope) (x : Word) (us : PlainExprs) → AreProper p us → Prints p (subscripts_before sc x us) (spell_cells us)
  prints_cells p sc x no_exprs h rest ts e d = d
  prints_cells p sc x (more_exprs u us) h rest ts e d =
      opens_cell (prints p sc (subscript_has_suffix sc x u) u h.0 _ _ refl (closes_cell (prints_cells p sc x us h.1 rest ts e d)))

  pub apart_cells : (sc : Scope) (x : Word) (us : PlainExprs) (rest : Text) → is_apart rest ≡ true → is_apart (subscripts_before sc x us rest) ≡ true
  apart_cells sc x no_exprs rest e = e
  apart_cells sc x (more_exprs u us) rest e = refl
