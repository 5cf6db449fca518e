use Rattle.std.proofs.Common.{◌≡◌, ℕ, ◌≤◌, true, false, List, [], ◌∷◌, ◌++◌, Bool, Some, codes, refl, subst, sym, arith}
use Rattle.std.specs.Fmt.{digits}
use Rattle.c_tree.specs.declared.symbol.Symbol.TheVariants as s
use Rattle.c_tree.specs.Plain.{var, PlainUnit}
use Rattle.c_tree.specs.Grammar.Lexemes as t
use Rattle.c_tree.specs.Grammar.Lexemes.{Lexeme}
use Rattle.c_tree.specs.Grammar.Expressions as e
use Rattle.c_tree.specs.Grammar.Expressions.{IsLow}
use Rattle.c_tree.specs.Grammar.Statements as g
use Rattle.c_tree.specs.Grammar.Heads as h
use Rattle.c_tree.specs.Grammar.Heads.{version_tokens, begin_tokens}
use Rattle.c_tree.specs.Grammar.Texts.{IsText}
use Rattle.c_tree.specs.Grammar.Tokens.{Text}
use Rattle.c_tree.specs.Grammar.Units as u
use Rattle.c_tree.specs.Grammar.Units.{AreParams, IsUnit}
use Rattle.c_lexer.specs.Reading.{tokens_of, step, hash, hash_word, pragma, literal, decimal_literal, hexadecimal_literal, is_suffix}
use Rattle.text_pieces.specs.Numbers.{decimal_in, number_in}
use Rattle.layout_laws.specs.Examples.{params, source, source_text, printed, printed_text}
use Rattle.layout_laws.proofs.Spans.{all_lexemes, to_tokens}
use Rattle.layout_laws.proofs.there_are_texts.Goals as goal

text_is : (text : Text) (ts : List Lexeme) (a : PlainUnit) → all_lexemes text ≡ Some ts → IsUnit ts a → IsText text a
text_is text ts a e d =
    let (ks, are, same) = to_tokens text ts e in
    record { tokens = ks; are_tokens = are; is_unit = subst (λ us. IsUnit us a) (sym same) d }

a_name : (p : Bool) (m : ℕ) (rest : List Lexeme) → 1 ≤ m → IsLow p m 1 (t.name (codes "n") ∷ rest) (var (codes "n")) rest
a_name p m rest low = record { reads = e.tighter (e.tighter (e.tighter (e.tighter (e.tighter (e.tighter (e.variable (codes "n"))))))); low = low }

-- the parameters and the parenthesis before them, up to the brace
abbrev head : List Lexeme
head =
    t.symbol s.Int64 ∷ t.name (codes "n") ∷ t.symbol s.Comma ∷ t.symbol s.Const ∷ t.symbol s.Uint64 ∷ t.name (codes "A") ∷ t.symbol s.OpenBracket ∷ t.name (codes "n") ∷ t.symbol s.CloseBracket ∷ []

the_params : (p : Bool) (m : ℕ) (rest : List Lexeme) → 1 ≤ m → AreParams p m (head ++ rest) params rest
the_params p m rest low = u.more_params (h.number (codes "n")) (u.one_param (h.constant (codes "A") (h.one_dim (a_name p m (t.symbol s.CloseBracket ∷ rest) low))))

abbrev source_tokens : List Lexeme
source_tokens = t.symbol s.Void ∷ t.name (codes "f") ∷ t.symbol s.OpenParen ∷ (head ++ (t.symbol s.CloseParen ∷ t.symbol s.OpenBrace ∷ t.symbol s.CloseBrace ∷ []))

source_seen : all_lexemes source_text ≡ Some source_tokens
unfolding tokens_of step
source_seen = refl

abbrev printed_tokens : List Lexeme
printed_tokens =
    t.symbol s.Preamble ∷ (version_tokens ++ (t.symbol s.Uint64 ∷ t.name (codes "f") ∷ t.symbol s.OpenParen ∷ (head ++ (t.symbol s.CloseParen ∷ t.symbol s.OpenBrace
    ∷ (begin_tokens ++ (t.symbol s.Return ∷ t.symbol s.OpenParen ∷ t.symbol s.Uint64 ∷ t.symbol s.CloseParen ∷ t.symbol s.OpenParen ∷ t.name (codes "bal_def0") ∷ t.symbol s.NotEqual ∷ t.name (codes "bal_use0")
    ∷ t.symbol s.CloseParen ∷ t.symbol s.ShiftLeft ∷ t.number 0 ∷ t.symbol s.Semicolon ∷ t.symbol s.CloseBrace ∷ []))))))

printed_seen : all_lexemes printed_text ≡ Some printed_tokens
unfolding tokens_of step hash hash_word pragma literal decimal_literal hexadecimal_literal is_suffix decimal_in number_in
printed_seen = refl

printed_unit : IsUnit printed_tokens printed
unfolding digits
printed_unit = u.printed (codes "f") u.no_ranges (the_params true 256 _ (omega arith)) u.no_words u.no_wides u.no_top u.no_top (omega arith) (omega arith) refl refl

pub returns : goal.returns
returns c = record {
  source = text_is source_text source_tokens source source_seen (u.source (codes "f") u.no_ranges (the_params false 64 _ (omega arith)) u.no_words g.end (omega arith));
  printed = text_is printed_text printed_tokens printed printed_seen printed_unit;
}
