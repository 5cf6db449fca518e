-- What a check reads behind its extent.
use Rattle.std.specs.Prelude.{List, Some}
use Rattle.c_tree.specs.Plain.{PlainExpr}
use Rattle.c_tree.specs.declared.symbol.Symbol.TheVariants as s
use Rattle.c_tree.specs.Grammar.Lexemes.{Lexeme}
use Rattle.grammar_reading.specs.Reading.{Read, ◌>>=◌, expect}

-- ) ) { return
abbrev pub behind_extent : PlainExpr → List Lexeme → Read PlainExpr
behind_extent extent ts = do
  t1 ← expect s.CloseParen ts
  t2 ← expect s.CloseParen t1
  t3 ← expect s.OpenBrace t2
  rest ← expect s.Return t3
  Some (extent, rest)
