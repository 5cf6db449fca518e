-- What is printed of a head is read as its tokens.
use Rattle.std.proofs.Common.{◌≡◌, ℕ, suc, Bool, true, false, List, [], ◌∷◌, ◌++◌, refl}
use Rattle.std.specs.Prelude.{codes, Option, Some, None, ℤ, pos, negsuc}
use Rattle.c_tree.specs.Layout as l
use Rattle.c_tree.specs.Layout.{Scope, scope_of}
use Rattle.c_tree.specs.Plain.{Word, PlainExprs, no_exprs, more_exprs, PlainParam, int_param, array_param}
use Rattle.c_tree.specs.declared.symbol.Symbol.TheVariants as s
use Rattle.c_tree.specs.Grammar.Lexemes as t
use Rattle.c_tree.specs.Grammar.Lexemes.{Lexeme}
use Rattle.layout_laws.specs.Spell.{spell_cells}
use Rattle.layout_laws.specs.Spell.{spell_int, spell_ranges, spell_param, spell_params, spell_more_params, spell_words, spell_wides, result_sign}
use Rattle.c_lexer.specs.declared.line.Line.TheVariants.{Fresh, Middle, Inside}
use Rattle.layout_laws.proofs.Seen.{word_symbol, mark_symbol}
use Rattle.c_tree.specs.Grammar.Tokens.{Text, is_apart}
use Rattle.layout_laws.specs.Proper.{AreProper, ProperInt, ProperRanges, ProperParam, ProperParams, ProperWords, ProperWides}
use Rattle.c_printer.specs.Before.{int_before, ranges_before, extents_before, param_before, more_params_before, params_before, words_before, wides_before}
use Rattle.layout_laws.proofs.Lexed.{Reads}
use Rattle.layout_laws.proofs.Numbers.{long_literal, plain_literal}
use Rattle.layout_laws.proofs.Marks.{space, semi_feed, opens_cell, closes_cell, comma}
use Rattle.layout_laws.proofs.Words.{name_in}
use Rattle.layout_laws.proofs.Expressions.{a_name, prints, begins_number}
use Rattle.layout_laws.proofs.Fixed.{equals, zero_end, end_line, range_start, minus_inside, spaced}

-- ---- ranges

int_read : {p : Bool} {rest : Text} {ts : List Lexeme} → (z : ℤ) → ProperInt z → is_apart rest ≡ true → Reads p Inside rest ts → Reads p Inside (int_before z rest) (spell_int z ts)
int_read {p = p} {rest = rest} {ts = ts} (pos n) h e d = plain_literal p Inside n rest ts h e d
int_read {p = p} {rest = rest} {ts = ts} (negsuc n) h e d = minus_inside (begins_number false (suc n) rest h) (plain_literal p Inside (suc n) rest ts h e d)

pub ranges_read : {p : Bool} {rest : Text} {ts : List Lexeme} → (rs : List (Word × ℤ × ℤ)) → ProperRanges p rs → Reads p Fresh rest ts → Reads p Fresh (ranges_before rs rest) (spell_ranges rs ts)
ranges_read [] h d = d
ranges_read (r ∷ rs) h d = range_start (name_in Inside r.0 h.0 refl (space (int_read r.1 h.1 refl (space (int_read r.2 h.2 refl (end_line (ranges_read rs h.3 d)))))))

-- ---- parameters

extents_read : {p : Bool} {rest : Text} {ts : List Lexeme} → (sc : Scope) (es : PlainExprs) → AreProper p es → Reads p Middle rest ts → Reads p Middle (extents_before sc es rest) (spell_cells es ts)
extents_read sc no_exprs h d = d
extents_read {p = p} {rest = rest} {ts = ts} sc (more_exprs e es) h d = opens_cell (prints p sc false e h.0 _ _ refl (closes_cell (extents_read sc es h.1 d)))

apart_extents : (sc : Scope) (es : PlainExprs) (rest : Text) → is_apart rest ≡ true → is_apart (extents_before sc es rest) ≡ true
apart_extents sc no_exprs rest e = e
apart_extents sc (more_exprs d es) rest e = refl

param_read : {p : Bool} {rest : Text} {ts : List Lexeme} → (sc : Scope) (x : PlainParam) → ProperParam p x → is_apart rest ≡ true → Reads p Middle rest ts → Reads p Middle (param_before sc x rest) (spell_param x ts)
unfolding word_symbol mark_symbol
param_read sc (int_param x) h e d = spaced Middle (codes "int64_t") s.Int64 refl refl refl (a_name x h e d)
param_read {rest = rest} sc (array_param x false es) h e d = spaced Middle (codes "uint64_t") s.Uint64 refl refl refl (a_name x h.0 (apart_extents sc es rest e) (extents_read sc es h.1 d))
param_read {rest = rest} sc (array_param x true es) h e d = spaced Middle (codes "const") s.Const refl refl refl (spaced Middle (codes "uint64_t") s.Uint64 refl refl refl (a_name x h.0 (apart_extents sc es rest e) (extents_read sc es h.1 d)))

apart_params : (sc : Scope) (xs : List PlainParam) (rest : Text) → is_apart rest ≡ true → is_apart (more_params_before sc xs rest) ≡ true
apart_params sc [] rest e = e
apart_params sc (x ∷ xs) rest e = refl

more_read : {p : Bool} {rest : Text} {ts : List Lexeme} → (sc : Scope) (xs : List PlainParam) → ProperParams p xs → is_apart rest ≡ true → Reads p Middle rest ts → Reads p Middle (more_params_before sc xs rest) (spell_more_params xs ts)
more_read sc [] h e d = d
more_read {rest = rest} sc (x ∷ xs) h e d = comma (param_read sc x h.0 (apart_params sc xs rest e) (more_read sc xs h.1 e d))

pub params_read : {p : Bool} {rest : Text} {ts : List Lexeme} → (sc : Scope) (xs : List PlainParam) → ProperParams p xs → is_apart rest ≡ true → Reads p Middle rest ts → Reads p Middle (params_before sc xs rest) (spell_params xs ts)
params_read sc [] h e d = d
params_read {rest = rest} sc (x ∷ xs) h e d = param_read sc x h.0 (apart_params sc xs rest e) (more_read sc xs h.1 e d)

-- ---- declarations

pub words_read : {p : Bool} {rest : Text} {ts : List Lexeme} → (ws : List (Word × ℕ)) → ProperWords p ws → Reads p Fresh rest ts → Reads p Fresh (words_before ws rest) (spell_words ws ts)
unfolding word_symbol mark_symbol
words_read [] h d = d
words_read {p = p} {rest = rest} {ts = ts} (w ∷ ws) h d =
    space (space (spaced Fresh (codes "uint64_t") s.Uint64 refl refl refl (a_name w.0 h.0 refl (equals (long_literal p Middle w.1 (codes ";\n" ++ words_before ws rest) (t.symbol s.Semicolon ∷ spell_words ws ts) h.1 refl (semi_feed (words_read ws h.2 d)))))))

pub wides_read : {p : Bool} {rest : Text} {ts : List Lexeme} → (xs : List Word) → ProperWides p xs → Reads p Fresh rest ts → Reads p Fresh (wides_before xs rest) (spell_wides xs ts)
unfolding word_symbol mark_symbol
wides_read [] h d = d
wides_read (x ∷ xs) h d = space (space (spaced Fresh (codes "unsigned") s.Unsigned refl refl refl (spaced Middle (codes "__int128") s.Int128 refl refl refl (a_name x h.0 refl (zero_end (wides_read xs h.1 d))))))

pub result_read : {p : Bool} {rest : Text} {ts : List Lexeme} → (version : Option ℕ) → Reads p Middle rest ts → Reads p Fresh (l.result_text version ++ rest) (t.symbol (result_sign version) ∷ ts)
unfolding word_symbol mark_symbol
result_read None d = spaced Fresh (codes "void") s.Void refl refl refl d
result_read (Some n) d = spaced Fresh (codes "uint64_t") s.Uint64 refl refl refl d
