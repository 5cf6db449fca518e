-- The names of a text are names, and its numbers are below 2^64.
use Rattle.std.proofs.Common.{◌≡◌, ℕ, zero, suc, ◌-◌, ◌^◌, ◌<◌, ◌≤◌, Bool, true, false, not, cond, List, [], ◌∷◌, length, map, take, drop, length-drop, Option, Some, None, option_map, refl, subst, ap, arith}
use Rattle.std.specs.Prelude.{bytes_eq, ◌&&◌}
use Rattle.std.proofs.lemmas.Bool.{not-true, and_parts}
use Rattle.std.proofs.lemmas.List.{length-take-le}
use Rattle.std.proofs.lemmas.Option.{same_Some}
use Rattle.c_tree.specs.declared.symbol.Symbol.{Symbol}
use Rattle.c_tree.specs.declared.symbol.Symbol.TheVariants as s
use Rattle.c_tree.specs.declared.token.TokenKind.{TokenKind}
use Rattle.c_tree.specs.declared.token.TokenKind.TheVariants.{Word, Literal, Mark, Directive, EndLine, Preamble}
use Rattle.c_tree.specs.Reserved.{is_word}
use Rattle.c_tree.specs.Grammar.Lexemes as t
use Rattle.c_tree.specs.Grammar.Lexemes.{Lexeme}
use Rattle.c_tree.specs.Grammar.Symbols.{words, marks}
use Rattle.c_tree.specs.Grammar.Texts.{find_symbol, symbol_or_name}
use Rattle.c_tree.specs.Grammar.Tokens as g
use Rattle.c_tree.specs.Grammar.Tokens.{Text, IsForm, IsProper as IsProperToken, is_mark}
use Rattle.c_lexer.specs.declared.line.Line.{Line}
use Rattle.c_lexer.specs.declared.line.Line.TheVariants.{Fresh, Middle, Inside}
use Rattle.c_lexer.specs.declared.line.Piece.{Piece}
use Rattle.c_lexer.specs.declared.line.Piece.TheVariants.{Passed, Taken, Nothing}
use Rattle.c_lexer.specs.Reading.{step}
use Rattle.c_lexer.proofs.Right.{place, RightBy}
use Rattle.c_lexer.proofs.Steps.{step_right}
use Rattle.c_lexer.proofs.Tests.{among_all}
use Rattle.layout_laws.specs.Proper.{IsName}
use Rattle.layout_laws.proofs.Lexed.{lexed, lexed_by, last_lexemes}
use Rattle.layout_laws.proofs.Seen.{word_symbol, mark_symbol, as_word, as_mark, seen}

abbrev pub is_preamble : Symbol → Bool
is_preamble s.Preamble = true
is_preamble _ = false

-- a token as it stands behind a preamble
abbrev pub IsProperLexeme : Bool → Lexeme → Type 0
IsProperLexeme p (t.name x) = IsName p x
IsProperLexeme p (t.number n) = n < 2 ^ 64
IsProperLexeme p (t.symbol j) = is_preamble j ≡ false

abbrev pub AllProper : Bool → List Lexeme → Type 0
AllProper p [] = Unit {0}
AllProper p (k ∷ ks) = IsProperLexeme p k × AllProper p ks

-- ---- words

abbrev no_preamble : List (Text × Symbol) → Bool
no_preamble [] = true
no_preamble (w ∷ ws) = not (is_preamble w.1) && no_preamble ws

found_by : (b : Bool) (i j : Symbol) (o : Option Symbol) → is_preamble i ≡ false → (o ≡ Some j → is_preamble j ≡ false) → cond b (Some i) o ≡ Some j → is_preamble j ≡ false
found_by true i j o h go e = subst (λ k. is_preamble k ≡ false) (same_Some _ _ e) h
found_by false i j o h go e = go e

found : (table : List (Text × Symbol)) (x : Text) (j : Symbol) → no_preamble table ≡ true → find_symbol table x ≡ Some j → is_preamble j ≡ false
found [] x j h e = absurd (let never : ⊥ = cc in never)
found (w ∷ ws) x j h e =
    let parts = and_parts (not (is_preamble w.1)) (no_preamble ws) h in
    found_by (bytes_eq w.0 x) w.1 j (find_symbol ws x) (not-true (is_preamble w.1) parts.0) (found ws x j parts.1) e

word_lexeme : (p : Bool) (x : Text) → is_word x ≡ true → length x ≤ cond p 262 255 → IsProperLexeme p (as_word x)
unfolding word_symbol
word_lexeme p x h fits = by (find_symbol words x) refl
  where
    by : (o : Option Symbol) → find_symbol words x ≡ o → IsProperLexeme p (symbol_or_name o x)
    by None e = record { word = h; fits = fits; no_symbol = e }
    by (Some j) e = found words x j refl e

-- ---- marks

-- a symbol of the grammar, and none of lines
abbrev has_symbol : Option Symbol → Bool
has_symbol None = false
has_symbol (Some j) = not (is_preamble j)

mark_lexeme : (p : Bool) (x : Text) → is_mark x ≡ true → IsProperLexeme p (as_mark x)
unfolding mark_symbol
mark_lexeme p x h = by (find_symbol marks x) (among_all (λ y. has_symbol (find_symbol marks y)) (map (λ m. m.0) marks) x h refl)
  where
    by : (o : Option Symbol) → has_symbol o ≡ true → IsProperLexeme p (symbol_or_name o x)
    by None e = absurd (let never : ⊥ = cc in never)
    by (Some j) e = not-true (is_preamble j) e

-- ---- what is read

form_proper : (p : Bool) (x : Text) (kind : TokenKind) → IsForm x kind → (kind ≡ Word → length x ≤ cond p 262 255) → IsProperLexeme p (seen kind x)
form_proper p x kind (g.word h) fits = word_lexeme p x h (fits refl)
form_proper p x kind (g.decimal ds suffix a among small) fits = small
form_proper p x kind (g.hexadecimal y ds suffix b a among small) fits = small
form_proper p x kind (g.mark h) fits = mark_lexeme p x h

-- a word is short enough
short : (p : Bool) (kind : TokenKind) (n : ℕ) (text rest : Text) → IsProperToken p kind n text rest → n ≤ length text → kind ≡ Word → length (take n text) ≤ cond p 262 255
short p Word n text rest h fits e = let len = length-take-le n text fits in omega (arith, h, len)
short p (Literal v) n text rest h fits e = absurd (let never : ⊥ = cc in never)
short p Mark n text rest h fits e = absurd (let never : ⊥ = cc in never)
short p Directive n text rest h fits e = absurd (let never : ⊥ = cc in never)
short p EndLine n text rest h fits e = absurd (let never : ⊥ = cc in never)
short p Preamble n text rest h fits e = absurd (let never : ⊥ = cc in never)

front_proper : (p : Bool) (l next : g.Line) (text rest : Text) (kind : TokenKind) (n : ℕ) → g.Front p l text (Some kind) next rest → n ≤ length text → drop n text ≡ rest → IsProperLexeme p (seen kind (take n text))
front_proper p l next text rest kind n g.end_line fits e = refl
front_proper p l next text rest kind n (g.begin_directive d) fits e = refl
front_proper p l next text rest kind n (g.token m b) fits e =
    let same : m ≡ n = omega (arith, b.within, ap length e, length-drop n text, length-drop m text) in
    subst (λ k. IsProperLexeme p (seen kind (take k text))) same (form_proper p (take m text) kind b.form (short p kind m text (drop m text) b.proper b.within))

-- ---- all tokens

by_map : (p : Bool) (k : Lexeme) (o : Option (List Lexeme)) (ts : List Lexeme) → IsProperLexeme p k → ((us : List Lexeme) → o ≡ Some us → AllProper p us) → option_map (λ us. k ∷ us) o ≡ Some ts → AllProper p ts
by_map p k None ts h go e = absurd (let never : ⊥ = cc in never)
by_map p k (Some us) ts h go e = subst (AllProper p) (same_Some _ _ e) (h, go us refl)

by_piece : (p : Bool) (l next : Line) (z : Text) (f : Piece) (on : ℕ → Option (List Lexeme)) (ts : List Lexeme) → RightBy p l z f next → ((left : ℕ) (us : List Lexeme) → on left ≡ Some us → AllProper p us) → lexed_by z f on ≡ Some ts → AllProper p ts
by_piece p l next z (Passed n) on ts h go e = go (n - 1) ts e
by_piece p l next z (Taken kind n) on ts h go e =
    by_map p (seen kind (take n z)) (on (n - 1)) ts (front_proper p (place l) (place next) z (drop n z) kind n h.front h.fits refl) (go (n - 1)) e
by_piece p l next z Nothing on ts h go e = absurd (let never : ⊥ = cc in never)

last_proper : (p : Bool) (line : Line) → AllProper p (last_lexemes line)
last_proper p Fresh = tt
last_proper p Middle = tt
last_proper p Inside = (refl, tt)

pub lexed_proper : (p : Bool) (line : Line) (left : ℕ) (z : Text) (ts : List Lexeme) → lexed p line left z ≡ Some ts → AllProper p ts
lexed_proper p line left [] ts e = subst (AllProper p) (same_Some _ _ e) (last_proper p line)
lexed_proper p line (suc left) (b ∷ z) ts e = lexed_proper p line left z ts e
lexed_proper p line zero (b ∷ z) ts e =
    let next = (step p line (b ∷ z)).line in
    by_piece p line next (b ∷ z) (step p line (b ∷ z)).piece (λ left. lexed p next left z) ts (step_right p line (b ∷ z)) (λ left us i. lexed_proper p next left z us i) e
