-- Marks, words of the grammar and blanks, one by one.
use Rattle.std.proofs.Common.{◌≡◌, ℕ, Bool, true, false, ◌&&◌, ◌||◌, List, [], ◌∷◌, ◌++◌, refl, sym, subst}
use Rattle.std.specs.Prelude.{codes, Some, nat_le, nat_eq, length, ◌==◌}
use Rattle.std.specs.List.{list_any}
use Rattle.c_tree.specs.declared.expr.Rel.{Rel}
use Rattle.c_tree.specs.declared.expr.Rel.TheVariants as r
use Rattle.c_tree.specs.declared.expr.BinOp.{BinOp}
use Rattle.c_tree.specs.declared.expr.BinOp.TheVariants as o
use Rattle.c_tree.specs.Layout as l
use Rattle.c_tree.specs.declared.symbol.Symbol.{Symbol}
use Rattle.c_tree.specs.declared.symbol.Symbol.TheVariants as s
use Rattle.c_tree.specs.Grammar.Lexemes as t
use Rattle.c_tree.specs.Grammar.Lexemes.{Lexeme}
use Rattle.c_tree.specs.Grammar.Tables.{mark, rel_mark}
use Rattle.c_tree.specs.declared.token.TokenKind.TheVariants.{Mark}
use Rattle.c_lexer.specs.declared.line.Line.{Line}
use Rattle.c_lexer.specs.declared.line.Line.TheVariants.{Fresh, Middle}
use Rattle.c_tree.specs.Grammar.Tokens.{Text}
use Rattle.c_tree.specs.Reserved.{is_word}
use Rattle.c_lexer.specs.Reading.{step, behind_token, assigning_bytes, doubled_bytes}
use Rattle.layout_laws.proofs.Seen.{word_symbol, mark_symbol}
use Rattle.layout_laws.proofs.Lexed.{Reads, token, blank}
use Rattle.layout_laws.proofs.Words.{keyword, lone, two, pairs}

never : (x y : Bool) → ((x && false) || (y && false)) ≡ false
never true true = refl
never true false = refl
never false true = refl
never false false = refl

-- a byte that is no part of a mark of two
alone : (b : ℕ) (z : Text) → list_any (nat_eq b) assigning_bytes ≡ false → list_any (nat_eq b) doubled_bytes ≡ false → pairs b z ≡ false
alone b [] e f = refl
alone b (c ∷ z) e f = rw (e, f) (never (c == 61) (b == c))

pub space : {p : Bool} {m : Line} {rest : Text} {ts : List Lexeme} → Reads p m rest ts → Reads p m (32 ∷ rest) ts
unfolding step
space {p = p} {m = m} {rest = rest} {ts = ts} d = blank p m 32 rest ts m refl d

pub feed : {p : Bool} {rest : Text} {ts : List Lexeme} → Reads p Fresh rest ts → Reads p Middle (10 ∷ rest) ts
unfolding step
feed {p = p} {rest = rest} {ts = ts} d = blank p Middle 10 rest ts Fresh refl d

-- ---- marks that are no part of another

pub opens : {p : Bool} {rest : Text} {ts : List Lexeme} → Reads p Middle rest ts → Reads p Middle (40 ∷ rest) (t.symbol s.OpenParen ∷ ts)
unfolding word_symbol mark_symbol
opens {p = p} {rest = rest} {ts = ts} d = lone p Middle 40 rest ts refl refl (alone 40 rest refl refl) d

pub closes : {p : Bool} {rest : Text} {ts : List Lexeme} → Reads p Middle rest ts → Reads p Middle (41 ∷ rest) (t.symbol s.CloseParen ∷ ts)
unfolding word_symbol mark_symbol
closes {p = p} {rest = rest} {ts = ts} d = lone p Middle 41 rest ts refl refl (alone 41 rest refl refl) d

pub opens_cell : {p : Bool} {rest : Text} {ts : List Lexeme} → Reads p Middle rest ts → Reads p Middle (91 ∷ rest) (t.symbol s.OpenBracket ∷ ts)
unfolding word_symbol mark_symbol
opens_cell {p = p} {rest = rest} {ts = ts} d = lone p Middle 91 rest ts refl refl (alone 91 rest refl refl) d

pub closes_cell : {p : Bool} {rest : Text} {ts : List Lexeme} → Reads p Middle rest ts → Reads p Middle (93 ∷ rest) (t.symbol s.CloseBracket ∷ ts)
unfolding word_symbol mark_symbol
closes_cell {p = p} {rest = rest} {ts = ts} d = lone p Middle 93 rest ts refl refl (alone 93 rest refl refl) d

pub inverts : {p : Bool} {rest : Text} {ts : List Lexeme} → Reads p Middle rest ts → Reads p Middle (126 ∷ rest) (t.symbol s.Tilde ∷ ts)
unfolding word_symbol mark_symbol
inverts {p = p} {rest = rest} {ts = ts} d = lone p Middle 126 rest ts refl refl (alone 126 rest refl refl) d

pub comma : {p : Bool} {rest : Text} {ts : List Lexeme} → Reads p Middle rest ts → Reads p Middle (codes ", " ++ rest) (t.symbol s.Comma ∷ ts)
unfolding word_symbol mark_symbol
comma {p = p} {rest = rest} {ts = ts} d = lone p Middle 44 (32 ∷ rest) ts refl refl refl (space d)

pub semi_space : {p : Bool} {rest : Text} {ts : List Lexeme} → Reads p Middle rest ts → Reads p Middle (codes "; " ++ rest) (t.symbol s.Semicolon ∷ ts)
unfolding word_symbol mark_symbol
semi_space {p = p} {rest = rest} {ts = ts} d = lone p Middle 59 (32 ∷ rest) ts refl refl refl (space d)

pub semi_feed : {p : Bool} {rest : Text} {ts : List Lexeme} → Reads p Fresh rest ts → Reads p Middle (codes ";\n" ++ rest) (t.symbol s.Semicolon ∷ ts)
unfolding word_symbol mark_symbol
semi_feed {p = p} {rest = rest} {ts = ts} d = lone p Middle 59 (10 ∷ rest) ts refl refl refl (feed d)

-- before what isn't a mark of two bytes with it
pub minus : {p : Bool} {rest : Text} {ts : List Lexeme} → pairs 45 rest ≡ false → Reads p Middle rest ts → Reads p Middle (45 ∷ rest) (t.symbol s.Minus ∷ ts)
unfolding word_symbol mark_symbol
minus {p = p} {rest = rest} {ts = ts} off d = lone p Middle 45 rest ts refl refl off d

-- ---- operators and comparisons between spaces

pub operator : {p : Bool} {rest : Text} {ts : List Lexeme} → (op : BinOp) → Reads p Middle rest ts → Reads p Middle (codes " " ++ (l.bin_mark op ++ (codes " " ++ rest))) (t.symbol (mark op) ∷ ts)
unfolding word_symbol mark_symbol step
operator {p = p} {rest = rest} {ts = ts} o.Or d = space (lone p Middle 124 (32 ∷ rest) ts refl refl refl (space d))
operator {p = p} {rest = rest} {ts = ts} o.Xor d = space (lone p Middle 94 (32 ∷ rest) ts refl refl refl (space d))
operator {p = p} {rest = rest} {ts = ts} o.And d = space (lone p Middle 38 (32 ∷ rest) ts refl refl refl (space d))
operator {p = p} {rest = rest} {ts = ts} o.Shl d = space (two p Middle 60 60 (32 ∷ rest) ts refl refl (space d))
operator {p = p} {rest = rest} {ts = ts} o.Shr d = space (two p Middle 62 62 (32 ∷ rest) ts refl refl (space d))
operator {p = p} {rest = rest} {ts = ts} o.Add d = space (lone p Middle 43 (32 ∷ rest) ts refl refl refl (space d))
operator {p = p} {rest = rest} {ts = ts} o.Sub d = space (lone p Middle 45 (32 ∷ rest) ts refl refl refl (space d))
operator {p = p} {rest = rest} {ts = ts} o.Mul d = space (lone p Middle 42 (32 ∷ rest) ts refl refl refl (space d))
operator {p = p} {rest = rest} {ts = ts} o.Div d = space (token p Middle 47 (32 ∷ rest) (32 ∷ rest) ts Mark 0 Middle refl refl (space d))
operator {p = p} {rest = rest} {ts = ts} o.Rem d = space (lone p Middle 37 (32 ∷ rest) ts refl refl refl (space d))

pub relation : {p : Bool} {rest : Text} {ts : List Lexeme} → (rel : Rel) → Reads p Middle rest ts → Reads p Middle (codes " " ++ (l.rel_mark rel ++ (codes " " ++ rest))) (t.symbol (rel_mark rel) ∷ ts)
unfolding word_symbol mark_symbol
relation {p = p} {rest = rest} {ts = ts} r.Lt d = space (lone p Middle 60 (32 ∷ rest) ts refl refl refl (space d))
relation {p = p} {rest = rest} {ts = ts} r.Le d = space (two p Middle 60 61 (32 ∷ rest) ts refl refl (space d))
relation {p = p} {rest = rest} {ts = ts} r.Gt d = space (lone p Middle 62 (32 ∷ rest) ts refl refl refl (space d))
relation {p = p} {rest = rest} {ts = ts} r.Ge d = space (two p Middle 62 61 (32 ∷ rest) ts refl refl (space d))
relation {p = p} {rest = rest} {ts = ts} r.Eq d = space (two p Middle 61 61 (32 ∷ rest) ts refl refl (space d))
relation {p = p} {rest = rest} {ts = ts} r.Ne d = space (two p Middle 33 61 (32 ∷ rest) ts refl refl (space d))

-- ---- casts and calls

pub word_cast : {p : Bool} {rest : Text} {ts : List Lexeme} → Reads p Middle rest ts → Reads p Middle (codes "(uint64_t)" ++ rest) (t.symbol s.OpenParen ∷ t.symbol s.Uint64 ∷ t.symbol s.CloseParen ∷ ts)
unfolding word_symbol mark_symbol
word_cast {p = p} {rest = rest} {ts = ts} d = opens (keyword p Middle (codes "uint64_t") s.Uint64 (41 ∷ rest) (t.symbol s.CloseParen ∷ ts) refl refl refl refl (closes d))

pub wide_cast : {p : Bool} {rest : Text} {ts : List Lexeme} → Reads p Middle rest ts → Reads p Middle (codes "(unsigned __int128)" ++ rest) (t.symbol s.OpenParen ∷ t.symbol s.Unsigned ∷ t.symbol s.Int128 ∷ t.symbol s.CloseParen ∷ ts)
unfolding word_symbol mark_symbol
wide_cast {p = p} {rest = rest} {ts = ts} d =
    opens (keyword p Middle (codes "unsigned") s.Unsigned (codes " __int128)" ++ rest) (t.symbol s.Int128 ∷ t.symbol s.CloseParen ∷ ts) refl refl refl refl
    (space (keyword p Middle (codes "__int128") s.Int128 (41 ∷ rest) (t.symbol s.CloseParen ∷ ts) refl refl refl refl (closes d))))

-- a word and an opening parenthesis behind it
pub called : (p : Bool) (m : Line) (x : Text) (j : Symbol) (rest : Text) (ts : List Lexeme) → is_word x ≡ true → nat_le (length x) 255 ≡ true → word_symbol x ≡ Some j → (behind_token m ≡ Middle) → Reads p Middle rest ts
    → Reads p m (x ++ (40 ∷ rest)) (t.symbol j ∷ t.symbol s.OpenParen ∷ ts)
called p m x j rest ts h fits is e d = keyword p m x j (40 ∷ rest) (t.symbol s.OpenParen ∷ ts) h fits is refl (subst (λ k. Reads p k (40 ∷ rest) (t.symbol s.OpenParen ∷ ts)) (sym e) (opens d))
