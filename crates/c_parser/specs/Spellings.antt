-- Words and marks with their symbols, and the token that a spelling is.
use Rattle.std.specs.Prelude.{ℕ, List, map, Option, Some, None}
use Rattle.std.specs.Borrow.{Bor}
use Rattle.c_tree.specs.declared.symbol.Symbol.{Symbol}
use Rattle.c_tree.specs.Grammar.Tokens.{Text}
use Rattle.expression_parser.specs.declared.terminal.Terminal.{Terminal}
use Rattle.expression_parser.specs.declared.terminal.Terminal.TheVariants as t

abbrev pub rows : List (Bor (List ℕ) × Symbol) → List (Text × Symbol)
rows = map (λ r. (r.0.now, r.1))

abbrev pub symbol_or_place : Option Symbol → ℕ → ℕ → Terminal
symbol_or_place None start end = t.Name start end
symbol_or_place (Some j) start end = t.Symbol j
