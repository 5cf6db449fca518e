-- What is read with places is what is read without them.
use Rattle.std.proofs.Common.{◌≡◌, ℕ, zero, suc, ◌+◌, ◌-◌, Bool, true, false, cond, List, [], ◌∷◌, length, take, drop, Option, Some, None, option_map, Ok, Err, refl, sym, ap, ◌∙◌, arith, drop-drop}
use Rattle.std.proofs.lemmas.Option.{same_Some}
use Rattle.c_tree.specs.declared.symbol.Symbol.TheVariants as s
use Rattle.c_tree.specs.declared.token.Token.{Token}
use Rattle.c_tree.specs.declared.token.TokenKind.{TokenKind}
use Rattle.c_tree.specs.Layout.{preamble}
use Rattle.c_tree.specs.Grammar.Lexemes as t
use Rattle.c_tree.specs.Grammar.Lexemes.{Lexeme}
use Rattle.c_tree.specs.Grammar.Texts.{as_lexeme, lexeme, lexemes}
use Rattle.c_tree.specs.Grammar.Tokens.{Text, AreTokens, is_printed}
use Rattle.c_lexer.specs.declared.line.Line.{Line}
use Rattle.c_lexer.specs.declared.line.Line.TheVariants.{Fresh, Middle, Inside}
use Rattle.c_lexer.specs.declared.line.Piece.{Piece}
use Rattle.c_lexer.specs.declared.line.Piece.TheVariants.{Passed, Taken, Nothing}
use Rattle.c_lexer.specs.Reading.{Reading, behind_tokens, tokens_by, tokens_from, preamble_token, tokens_of, step}
use Rattle.c_lexer.proofs.Meant.{MeansAll, means_all, tokens_complete}
use Rattle.layout_laws.proofs.Lexed.{lexed, lexed_by}
use Rattle.layout_laws.proofs.Seen.{seen, as_lexeme_is}

-- the tokens of a reading, as the grammar sees them
abbrev pub lexemes_of : Text → Reading → Option (List Lexeme)
lexemes_of text (Ok ks) = Some (lexemes text ks)
lexemes_of text (Err at) = None

abbrev pub all_lexemes : Text → Option (List Lexeme)
all_lexemes text = lexemes_of text (tokens_of text)

abbrev token_at : TokenKind → ℕ → ℕ → Token
token_at kind start end = record { kind = kind; start = start; end = end }

-- a token that begins where the rest does
lexeme_is : (text z : Text) (at n : ℕ) (kind : TokenKind) → drop at text ≡ z → lexeme text (token_at kind at (at + n)) ≡ seen kind (take n z)
lexeme_is text z at n kind e =
    let count : (at + n) - at ≡ n = omega arith in
    ap (λ k. as_lexeme kind (take k (drop at text))) count ∙ ap (λ y. as_lexeme kind (take n y)) e ∙ as_lexeme_is kind (take n z)

with_token : (text : Text) (k : Token) (r : Reading) → lexemes_of text (behind_tokens (k ∷ []) r) ≡ option_map (λ ts. lexeme text k ∷ ts) (lexemes_of text r)
with_token text k (Ok ks) = refl
with_token text k (Err at) = refl

by_piece : (text z : Text) (at : ℕ) (piece : Piece) (go : ℕ → Reading) (on : ℕ → Option (List Lexeme)) → drop at text ≡ z → ((left : ℕ) → lexemes_of text (go left) ≡ on left) → lexemes_of text (tokens_by at piece go) ≡ lexed_by z piece on
by_piece text z at (Passed n) go on e same = same (n - 1)
by_piece text z at (Taken kind n) go on e same =
    with_token text (token_at kind at (at + n)) (go (n - 1))
    ∙ ap (λ (k : Lexeme). option_map (λ ts. k ∷ ts) (lexemes_of text (go (n - 1)))) (lexeme_is text z at n kind e)
    ∙ ap (option_map (λ ts. seen kind (take n z) ∷ ts)) (same (n - 1))
by_piece text z at Nothing go on e same = refl

next_drop : (text z : Text) (at b : ℕ) → drop at text ≡ b ∷ z → drop (suc at) text ≡ z
next_drop text z at b e = let one : at + 1 ≡ suc at = omega arith in sym (drop-drop 1 at text ∙ ap (λ k. drop k text) one) ∙ ap (drop 1) e

spans : (p : Bool) (line : Line) (left at : ℕ) (text z : Text) → drop at text ≡ z → lexemes_of text (tokens_from p line left at z) ≡ lexed p line left z
spans p Fresh left at text [] e = refl
spans p Middle left at text [] e = refl
spans p Inside left at text [] e = refl
spans p line (suc left) at text (b ∷ z) e = spans p line left (suc at) text z (next_drop text z at b e)
spans p line zero at text (b ∷ z) e =
    let next = (step p line (b ∷ z)).line in
    by_piece text (b ∷ z) at (step p line (b ∷ z)).piece (λ left. tokens_from p next left (suc at) z) (λ left. lexed p next left z) e
    (λ left. spans p next left (suc at) text z (next_drop text z at b e))

-- ---- whole texts

-- a text without the preamble
pub source_lexemes : (text : Text) → is_printed text ≡ false → all_lexemes text ≡ lexed false Fresh 0 text
unfolding tokens_of
source_lexemes text h =
    ap (λ v. lexemes_of text (cond v (behind_tokens (preamble_token ∷ []) (tokens_from true Fresh 0 (length preamble) (drop (length preamble) text))) (tokens_from false Fresh 0 0 text))) h
    ∙ spans false Fresh 0 0 text text refl

-- a text with it
pub printed_lexemes : (text : Text) → is_printed text ≡ true → all_lexemes text ≡ option_map (λ ts. t.symbol s.Preamble ∷ ts) (lexed true Fresh 0 (drop (length preamble) text))
unfolding tokens_of
printed_lexemes text h =
    ap (λ v. lexemes_of text (cond v (behind_tokens (preamble_token ∷ []) (tokens_from true Fresh 0 (length preamble) (drop (length preamble) text))) (tokens_from false Fresh 0 0 text))) h
    ∙ with_token text preamble_token (tokens_from true Fresh 0 (length preamble) (drop (length preamble) text))
    ∙ ap (option_map (λ ts. t.symbol s.Preamble ∷ ts)) (spans true Fresh 0 (length preamble) text (drop (length preamble) text) refl)

-- ---- the tokens of a text

pub of_tokens : (text : Text) (ks : List Token) → AreTokens text ks → all_lexemes text ≡ Some (lexemes text ks)
of_tokens text ks a = ap (lexemes_of text) (tokens_complete text ks a)

pub to_tokens : (text : Text) (ts : List Lexeme) → all_lexemes text ≡ Some ts → (ks : List Token) × AreTokens text ks × (lexemes text ks ≡ ts)
to_tokens text ts e = by (tokens_of text) (means_all text) e
  where
    by : (r : Reading) → MeansAll text r → lexemes_of text r ≡ Some ts → (ks : List Token) × AreTokens text ks × (lexemes text ks ≡ ts)
    by (Ok ks) m e = (ks, m, same_Some _ _ e)
    by (Err at) m e = absurd (let never : ⊥ = cc in never)
