-- What the parser's tokens of a text are to the grammar.
use Rattle.std.specs.Prelude.{ℕ, ◌-◌, List, [], map, length, take, drop, nat_le, ◌&&◌, if◌then◌else◌}
use Rattle.c_tree.specs.Plain.{Word}
use Rattle.c_tree.specs.Grammar.Lexemes.{Lexeme, name, number, symbol}
use Rattle.expression_parser.specs.declared.terminal.Terminal.{Terminal}
use Rattle.expression_parser.specs.declared.terminal.Terminal.TheVariants as t

-- the bytes from one place to another, none where that lies outside
abbrev pub word_at : List ℕ → ℕ → ℕ → Word
word_at text start end = if nat_le start end && nat_le end (length text) then take (end - start) (drop start text) else []

abbrev pub seen : List ℕ → Terminal → Lexeme
seen text (t.Name start end) = name (word_at text start end)
seen text (t.Literal n) = number n
seen text (t.Symbol s) = symbol s

abbrev pub all_seen : List ℕ → List Terminal → List Lexeme
all_seen text = map (seen text)
