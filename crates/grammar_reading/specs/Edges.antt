-- Token lists at the edge of the grammar.
use Rattle.std.specs.Prelude.{false, List, [], ◌∷◌, codes}
use Rattle.c_tree.specs.declared.expr.Rel.TheVariants.{Lt}
use Rattle.c_tree.specs.declared.expr.BinOp.TheVariants.{Add}
use Rattle.c_tree.specs.Plain.{PlainExpr, lit, var, bin, test}
use Rattle.c_tree.specs.declared.symbol.Symbol.TheVariants as s
use Rattle.c_tree.specs.Grammar.Lexemes as t
use Rattle.c_tree.specs.Grammar.Lexemes.{Lexeme}
use Rattle.grammar_reading.specs.declared.rules.Rules.{Rules}

abbrev pub few : Rules
few = record { printed = false; limit = 64; turns = 30 }

abbrev pub as_word : List Lexeme → List Lexeme
as_word ts = t.symbol s.OpenParen ∷ t.symbol s.Uint64 ∷ t.symbol s.CloseParen ∷ ts

abbrev pub less : List Lexeme → List Lexeme
less ts = t.name (codes "a") ∷ t.symbol s.Less ∷ t.name (codes "b") ∷ ts

-- (uint64_t)(((a < b)))
abbrev pub three_around : List Lexeme
three_around = as_word (t.symbol s.OpenParen ∷ t.symbol s.OpenParen ∷ t.symbol s.OpenParen ∷ less (t.symbol s.CloseParen ∷ t.symbol s.CloseParen ∷ t.symbol s.CloseParen ∷ []))

-- (uint64_t)((((a))) + 1 < (b))
abbrev pub left_deep : List Lexeme
left_deep = as_word (t.symbol s.OpenParen ∷ t.symbol s.OpenParen ∷ t.symbol s.OpenParen ∷ t.symbol s.OpenParen ∷ t.name (codes "a") ∷ t.symbol s.CloseParen ∷ t.symbol s.CloseParen ∷ t.symbol s.CloseParen ∷ t.symbol s.Plus ∷ t.number 1 ∷ t.symbol s.Less
    ∷ t.symbol s.OpenParen ∷ t.name (codes "b") ∷ t.symbol s.CloseParen ∷ t.symbol s.CloseParen ∷ [])

abbrev pub left_deep_tree : PlainExpr
left_deep_tree = test Lt (bin Add (var (codes "a")) (lit 1)) (var (codes "b"))
