-- The names of a text.
use Rattle.std.specs.Prelude.{ℕ, List}
use Rattle.c_tree.specs.Plain.{Word}
use Rattle.expression_parser.specs.Terminals.{word_at}
use Rattle.statement_parser.specs.declared.tokens.Span.{Span}

-- the bytes of the name that stands there
abbrev pub name_in : List ℕ → Span → Word
name_in text x = word_at text x.start x.end
