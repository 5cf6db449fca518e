-- The lexer's reading of a text, as tokens of the grammar and without places.
use Rattle.std.proofs.Common.{◌≡◌, ℕ, zero, suc, ◌-◌, Bool, List, [], ◌∷◌, take, drop, Option, Some, None, option_map, refl, ap, ◌∙◌, arith}
use Rattle.c_tree.specs.declared.symbol.Symbol.TheVariants as s
use Rattle.c_tree.specs.declared.token.TokenKind.{TokenKind}
use Rattle.c_tree.specs.Grammar.Lexemes as t
use Rattle.c_tree.specs.Grammar.Lexemes.{Lexeme}
use Rattle.c_tree.specs.Grammar.Tokens.{Text}
use Rattle.c_lexer.specs.declared.line.Line.{Line}
use Rattle.c_lexer.specs.declared.line.Line.TheVariants.{Fresh, Middle, Inside}
use Rattle.c_lexer.specs.declared.line.Piece.{Piece}
use Rattle.c_lexer.specs.declared.line.Piece.TheVariants.{Passed, Taken, Nothing}
use Rattle.c_lexer.specs.declared.line.Step.{Step}
use Rattle.c_lexer.specs.Reading.{step}
use Rattle.layout_laws.proofs.Seen.{seen}

abbrev pub last_lexemes : Line → List Lexeme
last_lexemes Inside = t.symbol s.EndLine ∷ []
last_lexemes Fresh = []
last_lexemes Middle = []

abbrev pub lexed_by : Text → Piece → (ℕ → Option (List Lexeme)) → Option (List Lexeme)
lexed_by text (Passed n) go = go (n - 1)
lexed_by text (Taken kind n) go = option_map (λ ts. seen kind (take n text) ∷ ts) (go (n - 1))
lexed_by text Nothing go = None

-- The number is how many bytes are left of what began before.
abbrev pub lexed : Bool → Line → ℕ → Text → Option (List Lexeme)
lexed p line left [] = Some (last_lexemes line)
lexed p line (suc left) (b ∷ z) = lexed p line left z
lexed p line zero (b ∷ z) = lexed_by (b ∷ z) (step p line (b ∷ z)).piece (λ left. lexed p (step p line (b ∷ z)).line left z)

-- At this place of a line the text is read as these tokens. The test says whether it is a printed text.
pub record Reads (p : Bool) (line : Line) (text : Text) (ts : List Lexeme) : Type 0 where
  pub is : lexed p line 0 text ≡ Some ts

pub skips : (p : Bool) (line : Line) (left : ℕ) (z : Text) → lexed p line left z ≡ lexed p line 0 (drop left z)
skips p line zero z = refl
skips p line (suc left) [] = refl
skips p line (suc left) (b ∷ z) = skips p line left z

one_less : (n : ℕ) → suc n - 1 ≡ n
one_less n = omega arith

-- a token at the front
pub token : (p : Bool) (line : Line) (b : ℕ) (z rest : Text) (ts : List Lexeme) (kind : TokenKind) (n : ℕ) (next : Line) → step p line (b ∷ z) ≡ record { piece = Taken kind (suc n); line = next } → drop n z ≡ rest
    → Reads p next rest ts → Reads p line (b ∷ z) (seen kind (b ∷ take n z) ∷ ts)
token p line b z rest ts kind n next is e d = record {
  is =
      ap (λ (k : Step). lexed_by (b ∷ z) k.piece (λ left. lexed p k.line left z)) is
      ∙ ap (λ (j : ℕ). option_map (λ ts. seen kind (b ∷ take n z) ∷ ts) (lexed p next j z)) (one_less n)
      ∙ ap (option_map (λ ts. seen kind (b ∷ take n z) ∷ ts)) (skips p next n z ∙ ap (lexed p next 0) e ∙ d.is);
}

-- a blank at the front
pub blank : (p : Bool) (line : Line) (b : ℕ) (z : Text) (ts : List Lexeme) (next : Line) → step p line (b ∷ z) ≡ record { piece = Passed 1; line = next } → Reads p next z ts → Reads p line (b ∷ z) ts
blank p line b z ts next is d = record { is = ap (λ (k : Step). lexed_by (b ∷ z) k.piece (λ left. lexed p k.line left z)) is ∙ d.is }
