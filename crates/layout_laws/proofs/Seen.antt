-- Tokens as the grammar sees them, where looking up a word or a mark doesn't unfold by itself.
use Rattle.std.proofs.Common.{◌≡◌, Option, refl}
use Rattle.c_tree.specs.declared.symbol.Symbol.{Symbol}
use Rattle.c_tree.specs.declared.symbol.Symbol.TheVariants as s
use Rattle.c_tree.specs.declared.token.TokenKind.{TokenKind}
use Rattle.c_tree.specs.declared.token.TokenKind.TheVariants.{Word, Literal, Mark, Directive, EndLine, Preamble}
use Rattle.c_tree.specs.Grammar.Lexemes as t
use Rattle.c_tree.specs.Grammar.Lexemes.{Lexeme}
use Rattle.c_tree.specs.Grammar.Symbols.{words, marks}
use Rattle.c_tree.specs.Grammar.Texts.{find_symbol, symbol_or_name, as_lexeme}
use Rattle.c_tree.specs.Grammar.Tokens.{Text}

unfoldable pub word_symbol : Text → Option Symbol
word_symbol x = find_symbol words x

unfoldable pub mark_symbol : Text → Option Symbol
mark_symbol x = find_symbol marks x

abbrev pub as_word : Text → Lexeme
as_word x = symbol_or_name (word_symbol x) x

abbrev pub as_mark : Text → Lexeme
as_mark x = symbol_or_name (mark_symbol x) x

abbrev pub seen : TokenKind → Text → Lexeme
seen Word x = as_word x
seen Mark x = as_mark x
seen (Literal n) x = t.number n
seen Directive x = t.symbol s.Directive
seen EndLine x = t.symbol s.EndLine
seen Preamble x = t.symbol s.Preamble

pub as_lexeme_is : (kind : TokenKind) (x : Text) → as_lexeme kind x ≡ seen kind x
unfolding word_symbol mark_symbol
as_lexeme_is Word x = refl
as_lexeme_is Mark x = refl
as_lexeme_is (Literal n) x = refl
as_lexeme_is Directive x = refl
as_lexeme_is EndLine x = refl
as_lexeme_is Preamble x = refl
