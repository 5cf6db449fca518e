-- The layout of a unit is read as its tokens.
use Rattle.std.proofs.Common.{◌≡◌, ℕ, ◌^◌, ◌<◌, Bool, true, false, List, [], ◌∷◌, ◌++◌, length, refl, sym, ap, ◌∙◌}
use Rattle.std.specs.Prelude.{codes, Option, Some, None, decimal, option_map, ℤ}
use Rattle.std.proofs.lemmas.List.{drop_at}
use Rattle.c_tree.specs.Layout.{layout, result_text, scope_of, preamble}
use Rattle.c_tree.specs.Names.{arrays_in}
use Rattle.c_tree.specs.Grammar.Tokens.{Text, is_printed}
use Rattle.c_tree.specs.Plain.{Word, PlainUnit}
use Rattle.c_tree.specs.declared.symbol.Symbol.TheVariants as s
use Rattle.c_tree.specs.Grammar.Lexemes as t
use Rattle.c_tree.specs.Grammar.Lexemes.{Lexeme}
use Rattle.layout_laws.specs.Spell.{spell_unit, spell_ranges, spell_params, spell_words, spell_wides, spell_stmts, spell_version, result_sign}
use Rattle.c_lexer.specs.declared.line.Line.TheVariants.{Fresh, Inside}
use Rattle.layout_laws.specs.Proper.{ProperUnit}
use Rattle.c_printer.specs.Before.{version_before, unit_before, ranges_before}
use Rattle.layout_laws.proofs.Lexed.{Reads, lexed}
use Rattle.layout_laws.proofs.Spans.{all_lexemes, source_lexemes, printed_lexemes}
use Rattle.layout_laws.proofs.Numbers.{plain_literal}
use Rattle.layout_laws.proofs.Marks.{opens}
use Rattle.layout_laws.proofs.Expressions.{a_name}
use Rattle.layout_laws.proofs.Fixed.{closes_line, then_block, version_start, end_line}
use Rattle.layout_laws.proofs.Statements.{stmts_read}
use Rattle.layout_laws.proofs.Heads.{ranges_read, params_read, words_read, wides_read, result_read}
use Rattle.c_printer.proofs.Befores.{whole}

nothing_left : (p : Bool) → Reads p Fresh [] []
nothing_left p = record { is = refl }

-- what stands behind the version
spell_rest : PlainUnit → List Lexeme
spell_rest u =
    spell_ranges u.ranges (t.symbol (result_sign u.version) ∷ t.name u.name ∷ t.symbol s.OpenParen ∷ spell_params u.params (t.symbol s.CloseParen ∷ t.symbol s.OpenBrace
    ∷ spell_words u.words (spell_wides u.wides (spell_stmts (arrays_in u.params) u.body (t.symbol s.CloseBrace ∷ [])))))

unit_read : (p : Bool) (u : PlainUnit) → ProperUnit p u → Reads p Fresh (unit_before u []) (spell_rest u)
unfolding spell_rest
unit_read p u h =
    ranges_read u.ranges h.ranges (result_read u.version (a_name u.name h.name refl (opens (params_read (scope_of u.params) u.params h.params refl (then_block
    (words_read u.words h.words (wides_read u.wides h.wides (stmts_read p (scope_of u.params) 1 u.body h.body h.arrays _ _ (closes_line (nothing_left p))))))))))

-- ---- source texts

starts_otherwise : (u : PlainUnit) → u.version ≡ None → is_printed (unit_before u []) ≡ false
starts_otherwise u e = of u.ranges u.version e _
  where
    of : (rs : List (Word × ℤ × ℤ)) (v : Option ℕ) → v ≡ None → (rest : Text) → is_printed (ranges_before rs (result_text v ++ rest)) ≡ false
    of [] None e rest = refl
    of (r ∷ rs) None e rest = refl
    of rs (Some n) e rest = absurd (let never : ⊥ = cc in never)

pub source_read : (u : PlainUnit) → u.version ≡ None → ProperUnit false u → all_lexemes (layout u) ≡ Some (spell_unit u)
unfolding spell_rest
source_read u e h =
    let text : layout u ≡ unit_before u [] = sym (whole u) ∙ ap (λ v. version_before v (unit_before u [])) e in
    ap all_lexemes text ∙ source_lexemes (unit_before u []) (starts_otherwise u e) ∙ (unit_read false u h).is ∙ ap (λ v. Some (spell_version v (spell_rest u))) (sym e)

-- ---- printed texts

has_preamble : (rest : Text) → is_printed (preamble ++ rest) ≡ true
has_preamble rest = refl

behind_preamble : (rest : Text) (ts : List Lexeme) → Reads true Fresh rest ts → all_lexemes (preamble ++ rest) ≡ Some (t.symbol s.Preamble ∷ ts)
behind_preamble rest ts d =
    printed_lexemes (preamble ++ rest) (has_preamble rest)
    ∙ ap (option_map (λ ts. t.symbol s.Preamble ∷ ts)) (ap (lexed true Fresh 0) (drop_at preamble rest (length preamble) refl) ∙ d.is)

pub printed_read : (u : PlainUnit) (n : ℕ) → u.version ≡ Some n → n < 2 ^ 64 → ProperUnit true u → all_lexemes (layout u) ≡ Some (spell_unit u)
unfolding spell_rest
printed_read u n e small h =
    let text : layout u ≡ preamble ++ (codes "#pragma balance version " ++ (decimal n ++ (codes "\n" ++ unit_before u []))) = sym (whole u) ∙ ap (λ v. version_before v (unit_before u [])) e in
    ap all_lexemes text ∙ behind_preamble _ _ (version_start (plain_literal true Inside n (codes "\n" ++ unit_before u []) (t.symbol s.EndLine ∷ spell_rest u) small refl (end_line (unit_read true u h))))
    ∙ ap (λ v. Some (spell_version v (spell_rest u))) (sym e)
