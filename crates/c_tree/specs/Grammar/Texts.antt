-- Which texts are units, and of which plain units.
use Rattle.std.specs.Prelude.{List, [], ◌∷◌, map, bytes_eq, cond, Option, Some, None, slice_range}
use Rattle.c_tree.specs.Plain.{PlainUnit}
use Rattle.c_tree.specs.declared.symbol.Symbol.{Symbol}
use Rattle.c_tree.specs.declared.symbol.Symbol.TheVariants as s
use Rattle.c_tree.specs.declared.token.Token.{Token}
use Rattle.c_tree.specs.declared.token.TokenKind.{TokenKind}
use Rattle.c_tree.specs.declared.token.TokenKind.TheVariants.{Word, Literal, Mark, Directive, EndLine, Preamble}
use Rattle.c_tree.specs.Grammar.Lexemes as t
use Rattle.c_tree.specs.Grammar.Lexemes.{Lexeme}
use Rattle.c_tree.specs.Grammar.Symbols.{words, marks}
use Rattle.c_tree.specs.Grammar.Tokens.{Text, AreTokens}
use Rattle.c_tree.specs.Grammar.Units.{IsUnit}

-- the symbol that is written so
abbrev pub find_symbol : List (Text × Symbol) → Text → Option Symbol
find_symbol [] x = None
find_symbol (w ∷ ws) x = cond (bytes_eq w.0 x) (Some w.1) (find_symbol ws x)

abbrev pub symbol_or_name : Option Symbol → Text → Lexeme
symbol_or_name None x = t.name x
symbol_or_name (Some j) x = t.symbol j

-- A word is a symbol of the grammar, or else a name.
abbrev pub as_lexeme : TokenKind → Text → Lexeme
as_lexeme Word x = symbol_or_name (find_symbol words x) x
as_lexeme Mark x = symbol_or_name (find_symbol marks x) x
as_lexeme (Literal n) x = t.number n
as_lexeme Directive x = t.symbol s.Directive
as_lexeme EndLine x = t.symbol s.EndLine
as_lexeme Preamble x = t.symbol s.Preamble

abbrev pub lexeme : Text → Token → Lexeme
lexeme text k = as_lexeme k.kind (slice_range text k.start k.end)

abbrev pub lexemes : Text → List Token → List Lexeme
lexemes text ks = map (lexeme text) ks

-- the text is that of the unit
pub record IsText (text : Text) (u : PlainUnit) : Type 0 where
  pub tokens : List Token
  pub are_tokens : AreTokens text tokens
  pub is_unit : IsUnit (lexemes text tokens) u
