-- Reading a printed unit, step by step.
use Rattle.std.proofs.Common.{◌≡◌, ℕ, List, [], length, Some, option_and_then, sym, ap, ◌∙◌}
use Rattle.c_tree.specs.Names.{arrays_in}
use Rattle.c_tree.specs.Plain.{Word, PlainStmts, PlainUnit}
use Rattle.c_tree.specs.declared.symbol.Symbol.TheVariants as s
use Rattle.c_tree.specs.Grammar.Heads.{version_tokens}
use Rattle.c_tree.specs.Grammar.Lexemes.{Lexeme}
use Rattle.grammar_reading.specs.declared.rules.Rules.{Rules}
use Rattle.grammar_reading.specs.HeadReading.{fixed}
use Rattle.grammar_reading.specs.UnitReading.{Start, start_at, wides, printed_body, printed_at}

abbrev pub made : Start → List Word → PlainStmts → PlainUnit
made start xs us = record { version = Some 1; ranges = start.ranges; name = start.name; params = start.params; words = start.words; wides = xs; body = us }

pub printed_in_steps : (c : Rules) (ts t1 t2 t3 rest : List Lexeme) (start : Start) (xs : List Word) (arrays : ℕ) (us : PlainStmts) (u : PlainUnit) → fixed version_tokens ts ≡ Some t1 → start_at c s.Uint64 t1 ≡ Some (start, t2) → wides c.turns [] t2 ≡ Some (xs, t3)
    → arrays ≡ length (arrays_in start.params) → printed_body c arrays t3 ≡ Some (us, rest) → u ≡ made start xs us
    → printed_at c ts ≡ Some (u, rest)
unfolding printed_at
printed_in_steps c ts t1 t2 t3 rest start xs arrays us u a b d e f g =
    ap (option_and_then _) a ∙ ap (option_and_then _) b ∙ ap (option_and_then _) d ∙ ap (λ (n : ℕ). option_and_then (λ (x : PlainStmts × List Lexeme). Some (made start xs x.0, x.1)) (printed_body c n t3)) (sym e) ∙ ap (option_and_then _) f ∙ ap (λ (v : PlainUnit). Some (v, rest)) (sym g)
