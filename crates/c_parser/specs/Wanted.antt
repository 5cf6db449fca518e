-- What a token that a rule names is to the grammar.
use Rattle.std.specs.Prelude.{ℕ, List, map, ◌++◌, decimal}
use Rattle.c_tree.specs.Grammar.Lexemes.{Lexeme, name, number, symbol}
use Rattle.statement_parser.specs.Names.{name_in}
use Rattle.c_parser.specs.declared.wanted.Wanted.{Wanted}
use Rattle.c_parser.specs.declared.wanted.Wanted.TheVariants as f

abbrev pub lexeme : List ℕ → Wanted → Lexeme
lexeme text (f.Mark j) = symbol j
lexeme text (f.Number n) = number n
lexeme text (f.Word x) = name x.now
lexeme text (f.Name place) = name (name_in text place)
lexeme text (f.Total front a) = name (front.now ++ decimal a)

abbrev pub lexemes : List ℕ → List Wanted → List Lexeme
lexemes text = map (lexeme text)
