-- Reading a table, step by step.
use Rattle.std.proofs.Common.{◌≡◌, List, [], ◌∷◌, Some, option_and_then, ap, ◌∙◌}
use Rattle.c_tree.specs.Plain.{Word, PlainExpr, table}
use Rattle.c_tree.specs.declared.symbol.Symbol.TheVariants as s
use Rattle.c_tree.specs.Grammar.Heads.{calloc_tokens, table_tokens}
use Rattle.c_tree.specs.Grammar.Lexemes as t
use Rattle.c_tree.specs.Grammar.Lexemes.{Lexeme}
use Rattle.grammar_reading.specs.declared.rules.Rules.{Rules}
use Rattle.grammar_reading.specs.Blocks.{name_at, side}
use Rattle.grammar_reading.specs.HeadReading.{fixed, table_at}

pub table_in_steps : (c : Rules) (ts t1 t2 t3 t4 rest : List Lexeme) (x : Word) (u : PlainExpr) → fixed (t.symbol s.Uint64 ∷ t.symbol s.Star ∷ []) ts ≡ Some t1 → name_at t1 ≡ Some (x, t2) → fixed calloc_tokens t2 ≡ Some t3
    → side c t3 ≡ Some (u, t4) → fixed (table_tokens x) t4 ≡ Some rest → table_at c ts ≡ Some (table x u, rest)
unfolding table_at
table_in_steps c ts t1 t2 t3 t4 rest x u a b d e f = ap (option_and_then _) a ∙ ap (option_and_then _) b ∙ ap (option_and_then _) d ∙ ap (option_and_then _) e ∙ ap (option_and_then _) f
