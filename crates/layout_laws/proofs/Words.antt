-- Words, and what is read at a letter, a digit or the byte of a mark.
use Rattle.std.proofs.Common.{◌≡◌, ℕ, suc, ◌≤◌, Bool, true, false, not, cond, ◌&&◌, ◌||◌, ◌==◌, nat_le, if◌then◌else◌, List, [], ◌∷◌, ◌++◌, length, Option, Some, refl, subst, sym, ap, ◌∙◌, arith}
use Rattle.std.proofs.lemmas.Bool.{eqb-true, eq-eqb, both_ways, false_from_ne_true, and_parts, not-true, le-leb, leb-true}
use Rattle.std.proofs.lemmas.List.{take_at, drop_at}
use Rattle.std.specs.List.{list_all}
use Rattle.c_tree.specs.declared.symbol.Symbol.{Symbol}
use Rattle.c_tree.specs.declared.token.TokenKind.TheVariants.{Word, Mark}
use Rattle.c_tree.specs.Grammar.Lexemes as t
use Rattle.c_tree.specs.Grammar.Lexemes.{Lexeme}
use Rattle.c_tree.specs.Grammar.Texts.{symbol_or_name}
use Rattle.c_tree.specs.Grammar.Tokens.{Text, is_apart, is_gap}
use Rattle.c_tree.specs.Reserved.{is_letter, is_digit, is_word, is_word_byte}
use Rattle.text_pieces.proofs.Runs.{prefix_len-front}
use Rattle.c_lexer.specs.declared.line.Line.{Line}
use Rattle.c_lexer.specs.declared.line.Piece.TheVariants.{Taken, Nothing}
use Rattle.c_lexer.specs.Reading.{step, behind_token, token_in, token_piece, literal_piece, word_piece, word_len, longest, mark_piece, is_pair, is_single}
use Rattle.c_lexer.proofs.Forms.{letter_word, letter_no_digit}
use Rattle.c_lexer.proofs.Tests.{neither}
use Rattle.c_lexer.proofs.WordLemmas.{apart_stops}
use Rattle.layout_laws.specs.Proper.{IsName}
use Rattle.layout_laws.proofs.Lexed.{Reads, token}
use Rattle.layout_laws.proofs.Seen.{word_symbol, as_word, as_mark}

-- a byte of which a test holds is none of which it doesn't
pub other : (test : ℕ → Bool) (b k : ℕ) → test b ≡ true → test k ≡ false → (b == k) ≡ false
other test b k h never = false_from_ne_true (b == k) (λ e. both_ways (test b) (ap test (eqb-true b k e) ∙ never) h)

pub turned : (b k : ℕ) → (b == k) ≡ false → (k == b) ≡ false
turned b k h = false_from_ne_true (k == b) (λ e. both_ways (b == k) h (eq-eqb b k (sym (eqb-true k b e))))

-- a byte that begins no blank, no comment and no line begins a token
record IsInner (b : ℕ) : Type 0 where
  feed : (b == 10) ≡ false
  line : (b == 35) ≡ false
  space : (b == 32) ≡ false
  tab : (b == 9) ≡ false
  return : (b == 13) ≡ false
  form : (b == 12) ≡ false
  slash : (47 == b) ≡ false

inner_step : (p : Bool) (m : Line) (b : ℕ) (z : Text) → IsInner b → step p m (b ∷ z) ≡ token_in m (token_piece p b (b ∷ z))
unfolding step
inner_step p m b z h = rw (h.feed, h.line, h.space, h.tab, h.return, h.form, h.slash) refl

inner : (test : ℕ → Bool) (b : ℕ) → test b ≡ true → test 10 ≡ false → test 35 ≡ false → test 32 ≡ false → test 9 ≡ false → test 13 ≡ false → test 12 ≡ false → test 47 ≡ false → IsInner b
inner test b h feed line space tab return form slash = record {
  feed = other test b 10 h feed;
  line = other test b 35 h line;
  space = other test b 32 h space;
  tab = other test b 9 h tab;
  return = other test b 13 h return;
  form = other test b 12 h form;
  slash = turned b 47 (other test b 47 h slash);
}

pub word_step : (p : Bool) (m : Line) (b : ℕ) (z : Text) → is_word_byte b ≡ true → step p m (b ∷ z) ≡ token_in m (cond (is_digit b) (literal_piece (b ∷ z)) (word_piece (longest p) (b ∷ z)))
word_step p m b z h =
    inner_step p m b z (inner is_word_byte b h refl refl refl refl refl refl refl)
    ∙ ap (λ v. token_in m (cond (is_digit b) (literal_piece (b ∷ z)) (cond v (word_piece (longest p) (b ∷ z)) (mark_piece (b ∷ z))))) h

word_is : (most : ℕ) (text : Text) (n : ℕ) → word_len text ≡ n → n ≤ most → word_piece most text ≡ Taken Word n
word_is most text n e h = ap (λ k. if nat_le k most then Taken Word k else Nothing) e ∙ ap (λ c. cond c (Taken Word n) Nothing) (le-leb n most h)

-- a word, which is a symbol or a name
pub a_word : (p : Bool) (m : Line) (x rest : Text) (ts : List Lexeme) → is_word x ≡ true → length x ≤ longest p → is_apart rest ≡ true → Reads p (behind_token m) rest ts → Reads p m (x ++ rest) (as_word x ∷ ts)
a_word p m [] rest ts h fits e d = absurd (let no : ⊥ = cc in no)
a_word p m (b ∷ x) rest ts h fits e d =
    let (letter, others) = and_parts (is_letter b) (list_all is_word_byte x) h in
    let all : list_all is_word_byte (b ∷ x) ≡ true = rw (letter_word b letter) others in
    let len : word_len (b ∷ (x ++ rest)) ≡ suc (length x) = prefix_len-front is_word_byte (b ∷ x) rest all (apart_stops rest e) in
    let is = word_step p m b (x ++ rest) (letter_word b letter)
    ∙ ap (λ c. token_in m (cond c (literal_piece (b ∷ (x ++ rest))) (word_piece (longest p) (b ∷ (x ++ rest))))) (letter_no_digit b letter)
    ∙ ap (token_in m) (word_is (longest p) (b ∷ (x ++ rest)) (suc (length x)) len fits) in
    subst (λ (y : Text). Reads p m (b ∷ (x ++ rest)) (as_word (b ∷ y) ∷ ts)) (take_at x rest (length x) refl)
    (token p m b (x ++ rest) rest ts Word (length x) (behind_token m) is (drop_at x rest (length x) refl) d)

pub short : (p : Bool) (n : ℕ) → nat_le n 255 ≡ true → n ≤ longest p
short true n h = omega (arith, leb-true n 255 h)
short false n h = leb-true n 255 h

-- a word of the grammar
pub keyword : (p : Bool) (m : Line) (x : Text) (j : Symbol) (rest : Text) (ts : List Lexeme) → is_word x ≡ true → nat_le (length x) 255 ≡ true → word_symbol x ≡ Some j → is_apart rest ≡ true → Reads p (behind_token m) rest ts
    → Reads p m (x ++ rest) (t.symbol j ∷ ts)
keyword p m x j rest ts h fits is e d = subst (λ (o : Option Symbol). Reads p m (x ++ rest) (symbol_or_name o x ∷ ts)) is (a_word p m x rest ts h (short p (length x) fits) e d)

-- a name
pub name_in : {p : Bool} {rest : Text} {ts : List Lexeme} → (m : Line) (x : Text) → IsName p x → is_apart rest ≡ true → Reads p (behind_token m) rest ts → Reads p m (x ++ rest) (t.name x ∷ ts)
unfolding word_symbol
name_in {p = p} {rest = rest} {ts = ts} m x h e d = subst (λ (o : Option Symbol). Reads p m (x ++ rest) (symbol_or_name o x ∷ ts)) h.no_symbol (a_word p m x rest ts h.word h.fits e d)

-- ---- marks

abbrev pub is_mark_byte : ℕ → Bool
is_mark_byte b = not (is_word_byte b) && not (is_gap b || (b == 10 || (b == 35 || b == 47)))

pub mark_step : (p : Bool) (m : Line) (b : ℕ) (z : Text) → is_mark_byte b ≡ true → step p m (b ∷ z) ≡ token_in m (mark_piece (b ∷ z))
mark_step p m b z h =
    let never = not-true (is_word_byte b) (and_parts (not (is_word_byte b)) (not (is_gap b || (b == 10 || (b == 35 || b == 47)))) h).0 in
    inner_step p m b z (inner is_mark_byte b h refl refl refl refl refl refl refl)
    ∙ ap (λ v. token_in m (cond v (literal_piece (b ∷ z)) (cond (is_word_byte b) (word_piece (longest p) (b ∷ z)) (mark_piece (b ∷ z))))) (neither (is_letter b) (is_digit b) never).1
    ∙ ap (λ v. token_in m (cond v (word_piece (longest p) (b ∷ z)) (mark_piece (b ∷ z)))) never

-- the byte and what follows are a mark together
abbrev pub pairs : ℕ → Text → Bool
pairs b [] = false
pairs b (c ∷ z) = is_pair b c

mark_lone : (b : ℕ) (z : Text) → is_single b ≡ true → pairs b z ≡ false → mark_piece (b ∷ z) ≡ Taken Mark 1
mark_lone b [] h e = ap (λ c. cond c (Taken Mark 1) Nothing) h
mark_lone b (c ∷ z) h e = ap (λ k. if k then Taken Mark 2 else (if is_single b then Taken Mark 1 else Nothing)) e ∙ ap (λ c. cond c (Taken Mark 1) Nothing) h

pub lone : (p : Bool) (m : Line) (b : ℕ) (rest : Text) (ts : List Lexeme) → is_mark_byte b ≡ true → is_single b ≡ true → pairs b rest ≡ false → Reads p (behind_token m) rest ts → Reads p m (b ∷ rest) (as_mark (b ∷ []) ∷ ts)
lone p m b rest ts h one e d = token p m b rest rest ts Mark 0 (behind_token m) (mark_step p m b rest h ∙ ap (token_in m) (mark_lone b rest one e)) refl d

pub two : (p : Bool) (m : Line) (b c : ℕ) (rest : Text) (ts : List Lexeme) → is_mark_byte b ≡ true → is_pair b c ≡ true → Reads p (behind_token m) rest ts → Reads p m (b ∷ c ∷ rest) (as_mark (b ∷ c ∷ []) ∷ ts)
two p m b c rest ts h e d =
    token p m b (c ∷ rest) rest ts Mark 1 (behind_token m) (mark_step p m b (c ∷ rest) h ∙ ap (λ k. token_in m (if k then Taken Mark 2 else (if is_single b then Taken Mark 1 else Nothing))) e) refl d
