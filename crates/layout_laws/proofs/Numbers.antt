-- Decimal literals.
use Rattle.std.proofs.Common.{◌≡◌, ℕ, zero, suc, ◌^◌, ◌<◌, Bool, true, false, cond, ◌||◌, eqb, List, [], ◌∷◌, ◌++◌, length, get_or, refl, subst, sym, ap, ◌∙◌, arith, append_assoc, append-nil}
use Rattle.std.specs.Prelude.{decimal, codes, bytes_eq}
use Rattle.std.proofs.lemmas.Bool.{and_parts, ne_eqb}
use Rattle.std.proofs.lemmas.Bool.Decides.{nat_tests}
use Rattle.std.proofs.lemmas.List.{drop_at}
use Rattle.std.proofs.lemmas.Fmt.{digits_decimal, digits_value-decimal, decimal_nonempty, first_decimal, decimal_digit}
use Rattle.std.proofs.lemmas.Str.Parse.{IsNumeralModel, IsDigitsTest, numerals_by_value}
use Rattle.std.specs.Int.{IsInRange}
use Rattle.std.specs.List.{list_all}
use Rattle.std.specs.Str.Parse.{digits_value}
use Rattle.c_tree.specs.declared.token.TokenKind.TheVariants.{Literal}
use Rattle.c_tree.specs.Grammar.Lexemes as t
use Rattle.c_tree.specs.Grammar.Lexemes.{Lexeme}
use Rattle.c_tree.specs.Grammar.Tokens as g
use Rattle.c_tree.specs.Grammar.Tokens.{Text, IsForm, are_decimal, is_among, suffixes, is_apart}
use Rattle.c_tree.specs.Reserved.{is_digit, is_word_byte}
use Rattle.text_pieces.specs.Fronts.{run}
use Rattle.text_pieces.proofs.Runs.{prefix_len-front, run-front, list_all-implies}
use Rattle.c_lexer.specs.declared.line.Line.{Line}
use Rattle.c_lexer.specs.declared.line.Piece.TheVariants.{Taken}
use Rattle.c_lexer.specs.Reading.{behind_token, token_in, literal_piece, literal_by, literal, word_piece, word_len, longest}
use Rattle.c_lexer.proofs.Forms.{digit_word}
use Rattle.c_lexer.proofs.Literals.{literal_complete}
use Rattle.c_lexer.proofs.WordLemmas.{apart_stops}
use Rattle.layout_laws.proofs.Lexed.{Reads, token}
use Rattle.layout_laws.proofs.Words.{word_step}

-- ---- the digits of a number

abbrev AreDigits : Text → Type 0
AreDigits ds = list_all is_digit ds ≡ true

digit_is : (c : ℕ) → is_digit c ≡ true → IsInRange 48 57 c
digit_is c h = grind (arith, nat_tests)

digit_in : (c : ℕ) → IsInRange 48 57 c → is_digit c ≡ true
digit_in c h = grind (arith, nat_tests)

digits_test : IsDigitsTest AreDigits
digits_test = record {
  empty = refl;
  parts = λ c cs h. let (first, others) = and_parts (is_digit c) (list_all is_digit cs) h in (digit_is c first, others);
  more = λ c cs r h. rw (digit_in c r) h;
}

pub own : IsNumeralModel AreDigits (digits_value 10)
own = numerals_by_value AreDigits digits_test

pub all_words : (ds : Text) → list_all is_digit ds ≡ true → list_all is_word_byte ds ≡ true
all_words = list_all-implies is_digit is_word_byte digit_word

no_lead : (ds : Text) → 0 < length ds → 48 < get_or ds 0 0 → list_all is_digit ds ≡ true → are_decimal ds ≡ true
no_lead [] some high h = absurd (omega arith)
no_lead (d ∷ ds) some high h =
    let e : eqb d 48 ≡ false = ne_eqb d 48 (omega arith) in
    or_right (bytes_eq (d ∷ ds) (codes "0")) _ (rw e h) where
      or_right : (v w : Bool) → w ≡ true → (v || w) ≡ true
      or_right true w i = refl
      or_right false w i = i

are_decimal_digits : (n : ℕ) → n < 2 ^ 64 → are_decimal (decimal n) ≡ true
are_decimal_digits zero h = ap are_decimal (decimal_digit 0 (omega arith))
are_decimal_digits (suc n) h = no_lead (decimal (suc n)) (decimal_nonempty (suc n) h) (first_decimal (suc n) (omega arith) h) (digits_decimal own (suc n) h)

-- ---- literals

-- a literal of this number, of letters and digits, which begins with a digit
record IsLiteral (n : ℕ) (x : Text) : Type 0 where
  form : IsForm x (Literal n)
  first : (b : ℕ) × (z : Text) × (x ≡ b ∷ z) × (is_digit b ≡ true)
  words : list_all is_word_byte x ≡ true

all_append : (test : ℕ → Bool) (x y : Text) → list_all test x ≡ true → list_all test y ≡ true → list_all test (x ++ y) ≡ true
all_append test [] y h k = k
all_append test (b ∷ x) y h k = let (first, others) = and_parts (test b) (list_all test x) h in rw (first, all_append test x y others k) refl

begins : (ds z : Text) → 0 < length ds → list_all is_digit ds ≡ true → (b : ℕ) × (y : Text) × (ds ++ z ≡ b ∷ y) × (is_digit b ≡ true)
begins [] z some h = absurd (omega arith)
begins (b ∷ ds) z some h = (b, ds ++ z, refl, (and_parts (is_digit b) (list_all is_digit ds) h).0)

with_suffix : (n : ℕ) (suffix : Text) → n < 2 ^ 64 → is_among suffixes suffix ≡ true → list_all is_word_byte suffix ≡ true → IsLiteral n (decimal n ++ suffix)
with_suffix n suffix h among letters =
    let value : digits_value 10 (decimal n) ≡ n = digits_value-decimal own n h in
    let digits = digits_decimal own n h in
    record {
      form = subst (λ v. IsForm (decimal n ++ suffix) (Literal v)) value (g.decimal (decimal n) suffix (are_decimal_digits n h) among (subst (λ v. v < 2 ^ 64) (sym value) h));
      first = begins (decimal n) suffix (decimal_nonempty n h) digits;
      words = all_append is_word_byte (decimal n) suffix (all_words (decimal n) digits) letters;
    }

-- what is read of it
literal_is : (n : ℕ) (x rest : Text) → IsLiteral n x → is_apart rest ≡ true → literal_piece (x ++ rest) ≡ Taken (Literal n) (length x)
literal_is n x rest h apart =
    let len : word_len (x ++ rest) ≡ length x = prefix_len-front is_word_byte x rest h.words (apart_stops rest apart) in
    ap (λ k. literal_by k (literal (run is_word_byte (x ++ rest)))) len
    ∙ ap (λ y. literal_by (length x) (literal y)) (run-front is_word_byte x rest h.words (apart_stops rest apart))
    ∙ ap (literal_by (length x)) (literal_complete x n h.form)

a_literal : (p : Bool) (m : Line) (n : ℕ) (x rest : Text) (ts : List Lexeme) → IsLiteral n x → is_apart rest ≡ true → Reads p (behind_token m) rest ts → Reads p m (x ++ rest) (t.number n ∷ ts)
a_literal p m n x rest ts h apart d = of h.first
  where
    here : (b : ℕ) (z : Text) → is_digit b ≡ true → literal_piece (b ∷ (z ++ rest)) ≡ Taken (Literal n) (suc (length z)) → Reads p m (b ∷ (z ++ rest)) (t.number n ∷ ts)
    here b z digit piece =
        let is = word_step p m b (z ++ rest) (digit_word b digit)
        ∙ ap (λ c. token_in m (cond c (literal_piece (b ∷ (z ++ rest))) (word_piece (longest p) (b ∷ (z ++ rest))))) digit
        ∙ ap (token_in m) piece in
        token p m b (z ++ rest) rest ts (Literal n) (length z) (behind_token m) is (drop_at z rest (length z) refl) d

    of : ((b : ℕ) × (z : Text) × (x ≡ b ∷ z) × (is_digit b ≡ true)) → Reads p m (x ++ rest) (t.number n ∷ ts)
    of (b, z, e, digit) =
        subst (λ (y : Text). Reads p m (y ++ rest) (t.number n ∷ ts)) (sym e)
        (here b z digit (subst (λ (y : Text). literal_piece (y ++ rest) ≡ Taken (Literal n) (length y)) e (literal_is n x rest h apart)))

-- a literal without a suffix, and with one
pub plain_literal : (p : Bool) (m : Line) (n : ℕ) (rest : Text) (ts : List Lexeme) → n < 2 ^ 64 → is_apart rest ≡ true → Reads p (behind_token m) rest ts → Reads p m (decimal n ++ rest) (t.number n ∷ ts)
plain_literal p m n rest ts h apart d = subst (λ (x : Text). Reads p m (x ++ rest) (t.number n ∷ ts)) (append-nil (decimal n)) (a_literal p m n (decimal n ++ []) rest ts (with_suffix n [] h refl refl) apart d)

pub long_literal : (p : Bool) (m : Line) (n : ℕ) (rest : Text) (ts : List Lexeme) → n < 2 ^ 64 → is_apart rest ≡ true → Reads p (behind_token m) rest ts → Reads p m (decimal n ++ (codes "ull" ++ rest)) (t.number n ∷ ts)
long_literal p m n rest ts h apart d = subst (λ (x : Text). Reads p m x (t.number n ∷ ts)) (append_assoc (decimal n) (codes "ull") rest) (a_literal p m n (decimal n ++ codes "ull") rest ts (with_suffix n (codes "ull") h refl refl) apart d)

-- a number begins with a digit
pub number_first : (n : ℕ) → n < 2 ^ 64 → (b : ℕ) × (z : Text) × (decimal n ≡ b ∷ z) × (is_word_byte b ≡ true)
number_first n h = of (decimal n) (decimal_nonempty n h) (digits_decimal own n h)
  where
    of : (ds : Text) → 0 < length ds → list_all is_digit ds ≡ true → (b : ℕ) × (z : Text) × (ds ≡ b ∷ z) × (is_word_byte b ≡ true)
    of [] some all = absurd (omega arith)
    of (d ∷ ds) some all = (d, ds, refl, digit_word d (and_parts (is_digit d) (list_all is_digit ds) all).0)
