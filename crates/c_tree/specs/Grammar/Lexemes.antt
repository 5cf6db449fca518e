-- Tokens as the grammar sees them: a name by its bytes, a literal by its value, a word or mark of the grammar.
use Rattle.std.specs.Prelude.{ℕ}
use Rattle.c_tree.specs.Plain.{Word}
use Rattle.c_tree.specs.declared.symbol.Symbol.{Symbol}

pub data Lexeme : Type 0 where
  name : Word → Lexeme
  number : ℕ → Lexeme
  symbol : Symbol → Lexeme
