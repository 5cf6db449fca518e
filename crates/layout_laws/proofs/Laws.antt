-- The trees of the grammar are those that some text has, and the layout of each is such a text.
use Rattle.std.proofs.Common.{◌≡◌, Bool, true, false, List, [], ◌∷◌, length, drop, Option, Some, None, is_some, option_map, refl, sym, subst, ap, ◌∙◌, arith}
use Rattle.std.proofs.lemmas.Option.{same_Some}
use Rattle.c_tree.specs.declared.symbol.Symbol.TheVariants as s
use Rattle.c_tree.specs.Layout.{layout, preamble}
use Rattle.c_tree.specs.Plain.{PlainUnit}
use Rattle.c_tree.specs.Grammar.Lexemes as t
use Rattle.c_tree.specs.Grammar.Lexemes.{Lexeme}
use Rattle.c_tree.specs.Grammar.Texts.{IsText, lexemes}
use Rattle.c_tree.specs.Grammar.Tokens.{Text, is_printed}
use Rattle.c_tree.specs.Grammar.Units.{IsUnit}
use Rattle.c_lexer.specs.declared.line.Line.TheVariants.{Fresh}
use Rattle.layout_laws.specs.Fine as fine
use Rattle.layout_laws.specs.Fine.{FineUnit}
use Rattle.layout_laws.specs.Proper.{ProperUnit}
use Rattle.layout_laws.specs.Spell.{spell_unit}
use Rattle.layout_laws.specs.Trees.{IsTree}
use Rattle.layout_laws.proofs.SpelledUnits.{fine_unit, spelled_unit}
use Rattle.layout_laws.proofs.Spans.{all_lexemes, source_lexemes, printed_lexemes, of_tokens, to_tokens}
use Rattle.layout_laws.proofs.ProperTokens.{AllProper, lexed_proper}
use Rattle.layout_laws.proofs.ProperTrees.{leads, Split, split}
use Rattle.layout_laws.proofs.Wholes.{source_read, printed_read}

-- proper tokens have no preamble among them
no_lead : (p : Bool) (ts : List Lexeme) → AllProper p ts → leads ts ≡ false
no_lead p [] h = refl
no_lead p (t.name x ∷ ts) h = refl
no_lead p (t.number n ∷ ts) h = refl
no_lead p (t.symbol j ∷ ts) h = h.0

of_map : (o : Option (List Lexeme)) (ts : List Lexeme) → option_map (λ us. t.symbol s.Preamble ∷ us) o ≡ Some ts → (us : List Lexeme) × (o ≡ Some us) × (ts ≡ t.symbol s.Preamble ∷ us)
of_map None ts e = absurd (let never : ⊥ = cc in never)
of_map (Some us) ts e = (us, refl, sym (same_Some _ _ e))

-- the names and numbers of a unit that a text has
proper_of : (text : Text) (u : PlainUnit) (ts : List Lexeme) → all_lexemes text ≡ Some ts → Split ts u → (b : Bool) → is_printed text ≡ b → ProperUnit (is_some u.version) u
proper_of text u ts e h false is =
    let all = lexed_proper false Fresh 0 text ts (sym (source_lexemes text is) ∙ e) in
    let x = h.source (no_lead false ts all) in
    subst (λ v. ProperUnit (is_some v) u) (sym x.0) (x.1 all)
proper_of text u ts e h true is =
    let (us, o, same) = of_map _ ts (sym (printed_lexemes text is) ∙ e) in
    let all = lexed_proper true Fresh 0 (drop (length preamble) text) us o in
    let x = h.printed (ap leads same) in
    subst (λ v. ProperUnit (is_some v) u) (sym x.0) (x.1 (subst (λ ks. AllProper true (drop 1 ks)) (sym same) all))

-- whether a unit that a text has is a printed one
version_of : (text : Text) (u : PlainUnit) (ts : List Lexeme) → all_lexemes text ≡ Some ts → Split ts u → (b : Bool) → is_printed text ≡ b → is_some u.version ≡ b
version_of text u ts e h false is =
    let all = lexed_proper false Fresh 0 text ts (sym (source_lexemes text is) ∙ e) in
    ap is_some (h.source (no_lead false ts all)).0
version_of text u ts e h true is =
    let (us, o, same) = of_map _ ts (sym (printed_lexemes text is) ∙ e) in
    ap is_some (h.printed (ap leads same)).0

pub told_by_preamble : (text : Text) (u : PlainUnit) → IsText text u → is_some u.version ≡ is_printed text
told_by_preamble text u d = version_of text u (lexemes text d.tokens) (of_tokens text d.tokens d.are_tokens) (split (lexemes text d.tokens) u d.is_unit) (is_printed text) refl

pub tree_of_text : (text : Text) (u : PlainUnit) → IsText text u → IsTree u
tree_of_text text u d = record {
  fine = fine_unit d.is_unit;
  proper = proper_of text u (lexemes text d.tokens) (of_tokens text d.tokens d.are_tokens) (split (lexemes text d.tokens) u d.is_unit) (is_printed text) refl;
}

-- the layout of a tree of the grammar has the tokens that spell it
layout_lexemes : (u : PlainUnit) → FineUnit u → ProperUnit (is_some u.version) u → all_lexemes (layout u) ≡ Some (spell_unit u)
layout_lexemes _ (fine.source f ranges params body low) h = source_read _ refl h
layout_lexemes _ (fine.printed f us vs ranges params before body low high checks others) h = printed_read _ 1 refl (omega arith) h

pub text_of_tree : (u : PlainUnit) → IsTree u → IsText (layout u) u
text_of_tree u h =
    let (ks, are, same) = to_tokens (layout u) (spell_unit u) (layout_lexemes u h.fine h.proper) in
    record { tokens = ks; are_tokens = are; is_unit = subst (λ ts. IsUnit ts u) (sym same) (spelled_unit u h.fine) }
