-- Words, literals and marks by themselves.
use Rattle.std.proofs.Common.{◌≡◌, ℕ, Bool, true, false, not, ◌&&◌, ◌||◌, eqb, codes, [], ◌∷◌, ◌++◌, map, refl, sym, subst, ◌⊎◌, inl, inr, arith}
use Rattle.std.proofs.lemmas.Bool.{eqb-true}
use Rattle.std.proofs.lemmas.Bool.Decides.{nat_tests}
use Rattle.std.specs.Str.{bytes_eq}
use Rattle.std.proofs.lemmas.List.Folds.{list_all-append}
use Rattle.std.specs.List.{list_all, list_any}
use Rattle.std.specs.Char.{is_ascii_hexdigit}
use Rattle.c_tree.specs.declared.token.TokenKind.{TokenKind}
use Rattle.c_tree.specs.Reserved.{is_letter, is_digit, is_word, is_word_byte}
use Rattle.c_tree.specs.Grammar.Symbols.{marks}
use Rattle.c_tree.specs.Grammar.Tokens as g
use Rattle.c_tree.specs.Grammar.Tokens.{Text, IsForm, is_among, is_mark, are_decimal, are_hexadecimal, suffixes, is_gap}
use Rattle.c_lexer.specs.Reading.{single_bytes, assigning_bytes, doubled_bytes, is_single, is_pair}
use Rattle.text_pieces.proofs.Runs.{both, begins, list_all-implies}
use Rattle.c_lexer.proofs.Tests.{either, same_bytes, among_all, among_numbers}

-- ---- bytes

pub letter_word : (b : ℕ) → is_letter b ≡ true → is_word_byte b ≡ true
letter_word b h = rw h refl

pub digit_word : (b : ℕ) → is_digit b ≡ true → is_word_byte b ≡ true
digit_word b h = grind (arith, nat_tests)

pub hex_word : (b : ℕ) → is_ascii_hexdigit b ≡ true → is_word_byte b ≡ true
hex_word b h = grind (arith, nat_tests)

pub letter_no_digit : (b : ℕ) → is_letter b ≡ true → is_digit b ≡ false
letter_no_digit b h = grind (arith, nat_tests)

-- ---- marks

-- a byte that begins no blank, no line and no word
abbrev pub is_plain : ℕ → Bool
is_plain b = not (is_word_byte b || (eqb b 10 || (eqb b 35 || is_gap b)))

-- one or two bytes, as the reading has them
abbrev pub is_mark_shape : Text → Bool
is_mark_shape [] = false
is_mark_shape (b ∷ []) = is_plain b && is_single b
is_mark_shape (b ∷ c ∷ []) = is_plain b && is_pair b c
is_mark_shape (b ∷ c ∷ d ∷ z) = false

pub mark_shape : (x : Text) → is_mark x ≡ true → is_mark_shape x ≡ true
mark_shape x h = among_all is_mark_shape (map (λ m. m.0) marks) x h refl

pub single_mark : (b : ℕ) → is_single b ≡ true → is_mark (b ∷ []) ≡ true
single_mark b h = among_numbers (λ k. is_mark (k ∷ [])) single_bytes b h refl

pub pair_mark : (b c : ℕ) → is_pair b c ≡ true → is_mark (b ∷ c ∷ []) ≡ true
pair_mark b c h = by (either (eqb c 61 && list_any (eqb b) assigning_bytes) (eqb b c && list_any (eqb b) doubled_bytes) h) where
  by : ((eqb c 61 && list_any (eqb b) assigning_bytes) ≡ true) ⊎ ((eqb b c && list_any (eqb b) doubled_bytes) ≡ true) → is_mark (b ∷ c ∷ []) ≡ true
  by (inl e) =
      let (last, first) = both (eqb c 61) (list_any (eqb b) assigning_bytes) e in
      subst (λ d. is_mark (b ∷ d ∷ []) ≡ true) (sym (eqb-true c 61 last)) (among_numbers (λ k. is_mark (k ∷ 61 ∷ [])) assigning_bytes b first refl)
  by (inr e) =
      let (same, first) = both (eqb b c) (list_any (eqb b) doubled_bytes) e in
      subst (λ d. is_mark (b ∷ d ∷ []) ≡ true) (eqb-true b c same) (among_numbers (λ k. is_mark (k ∷ k ∷ [])) doubled_bytes b first refl)

-- ---- forms

-- a text of letters, digits and `_`
abbrev pub is_wordy : Text → Bool
is_wordy x = begins is_word_byte x && list_all is_word_byte x

wordy : (x : Text) → begins is_word_byte x ≡ true → list_all is_word_byte x ≡ true → is_wordy x ≡ true
wordy x e f = rw (e, f) refl

begins-append : (test : ℕ → Bool) (x y : Text) → begins test x ≡ true → begins test (x ++ y) ≡ true
begins-append test [] y h = absurd (let no : ⊥ = cc in no)
begins-append test (b ∷ x) y h = h

list_all-both : (test : ℕ → Bool) (x y : Text) → list_all test x ≡ true → list_all test y ≡ true → list_all test (x ++ y) ≡ true
list_all-both test x y e f = rw (list_all-append test x y, e) f

begins-implies : (p q : ℕ → Bool) → ((b : ℕ) → p b ≡ true → q b ≡ true) → (x : Text) → begins p x ≡ true → begins q x ≡ true
begins-implies p q h [] e = absurd (let no : ⊥ = cc in no)
begins-implies p q h (b ∷ x) e = h b e

pub word_is_wordy : (x : Text) → is_word x ≡ true → is_wordy x ≡ true
word_is_wordy [] h = absurd (let no : ⊥ = cc in no)
word_is_wordy (b ∷ x) h = let (one, others) = both (is_letter b) (list_all is_word_byte x) h in rw (letter_word b one) others

pub decimal_digits : (ds : Text) → are_decimal ds ≡ true → (begins is_digit ds ≡ true) × (list_all is_digit ds ≡ true)
decimal_digits [] h = absurd (let no : ⊥ = cc in no)
decimal_digits (d ∷ ds) h = by (either (bytes_eq (d ∷ ds) (codes "0")) (not (eqb d 48) && list_all is_digit (d ∷ ds)) h) where
  by : (bytes_eq (d ∷ ds) (codes "0") ≡ true) ⊎ ((not (eqb d 48) && list_all is_digit (d ∷ ds)) ≡ true) → (begins is_digit (d ∷ ds) ≡ true) × (list_all is_digit (d ∷ ds) ≡ true)
  by (inl e) = subst (λ x. (begins is_digit x ≡ true) × (list_all is_digit x ≡ true)) (sym (same_bytes (d ∷ ds) (codes "0") e)) (refl, refl)
  by (inr e) = let digits = (both (not (eqb d 48)) (list_all is_digit (d ∷ ds)) e).1 in ((both (is_digit d) (list_all is_digit ds) digits).0, digits)

pub hexadecimal_digits : (ds : Text) → are_hexadecimal ds ≡ true → (begins is_ascii_hexdigit ds ≡ true) × (list_all is_ascii_hexdigit ds ≡ true)
hexadecimal_digits [] h = absurd (let no : ⊥ = cc in no)
hexadecimal_digits (d ∷ ds) h = ((both (is_ascii_hexdigit d) (list_all is_ascii_hexdigit ds) h).0, h)

pub form_bytes : (x : Text) (kind : TokenKind) → IsForm x kind → (is_mark x ≡ true) ⊎ (is_wordy x ≡ true)
form_bytes x kind (g.word h) = inr (word_is_wordy x h)
form_bytes x kind (g.decimal ds suffix a s v) =
    let (first, all) = decimal_digits ds a in
    inr (wordy (ds ++ suffix) (begins-append is_word_byte ds suffix (begins-implies is_digit is_word_byte digit_word ds first))
    (list_all-both is_word_byte ds suffix (list_all-implies is_digit is_word_byte digit_word ds all) (among_all (list_all is_word_byte) suffixes suffix s refl)))
form_bytes x kind (g.hexadecimal y ds suffix p a s v) =
    let (first, all) = hexadecimal_digits ds a in
    let whole = both (begins is_word_byte y) (list_all is_word_byte y) (among_all is_wordy (codes "0x" ∷ codes "0X" ∷ []) y p refl) in
    inr (wordy (y ++ (ds ++ suffix)) (begins-append is_word_byte y (ds ++ suffix) whole.0)
    (list_all-both is_word_byte y (ds ++ suffix) whole.1 (list_all-both is_word_byte ds suffix (list_all-implies is_ascii_hexdigit is_word_byte hex_word ds all) (among_all (list_all is_word_byte) suffixes suffix s refl))))
form_bytes x kind (g.mark h) = inl h
