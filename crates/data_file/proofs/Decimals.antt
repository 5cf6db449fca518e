-- Numbers: the digits that are read are those that are written.
use Rattle.std.proofs.Common.{◌≡◌, ℕ, zero, suc, ◌^◌, ◌<◌, ◌≤◌, List, [], ◌∷◌, length, get_or, Bool, true, false, cond, not, ◌&&◌, nat_lt, nat_le, nat_eq, Option, Some, None, option_and_then, ℤ, pos, negsuc, FitsSigned, w64, refl, sym, ap, ◌∙◌, subst, arith}
use Rattle.std.proofs.lemmas.Bool.{ltb-true, lt-ltb, leb-true, le-leb}
use Rattle.std.proofs.lemmas.Bool.Decides.{nat_tests}
use Rattle.std.proofs.lemmas.Option.{cond_some}
use Rattle.std.proofs.lemmas.Str.Parse.{numerals_by_value, tells_digits, digit_from_value}
use Rattle.std.proofs.lemmas.Fmt.{decimal_is_IsNumeral, decimal-digits_value, decimal_digit, first_decimal, decimal_nonempty}
use Rattle.std.specs.Char.{digit_value}
use Rattle.std.specs.Fmt.{decimal, signed_decimal}
use Rattle.std.specs.Int.{IsInRange}
use Rattle.std.specs.List.{list_all}
use Rattle.std.specs.Str.Parse.{AllDigits, digits_value}
use Rattle.c_tree.specs.Reserved.{is_digit}
use Rattle.text_pieces.specs.Numbers.{is_digit_in, is_numeral, has_needless_zero, number_in, decimal_in}
use Rattle.text_pieces.proofs.Runs.{both}
use Rattle.data_file.specs.Reading.{int_of, negative, positive}
use Rattle.data_file.proofs.Fronts.{bind_is, Passes}

pub digit_is : (b : ℕ) → is_digit b ≡ true → IsInRange 48 57 b
digit_is b h = grind (arith, nat_tests)

digit_passes : (b : ℕ) → IsInRange 48 57 b → is_digit b ≡ true
digit_passes b h = grind (arith, nat_tests)

digits_pass : (ds : List ℕ) → AllDigits 10 ds → Passes is_digit ds
digits_pass [] d = tt
digits_pass (b ∷ bs) d = (digit_passes b (digit_from_value b d.0), digits_pass bs d.1)

are_digits : (ds : List ℕ) → AllDigits 10 ds → list_all (is_digit_in 10) ds ≡ true
are_digits [] d = refl
are_digits (b ∷ bs) d = rw (lt-ltb (digit_value b) 10 d.0) (are_digits bs d.1)

are_digits_is : (ds : List ℕ) → list_all (is_digit_in 10) ds ≡ true → AllDigits 10 ds
are_digits_is [] h = tt
are_digits_is (b ∷ bs) h = let (one, others) = both (is_digit_in 10 b) (list_all (is_digit_in 10) bs) h in (ltb-true (digit_value b) 10 one, are_digits_is bs others)

-- ---- from a number to its digits

pub decimal_passes : (n : ℕ) → n < 2 ^ 64 → Passes is_digit (decimal n)
decimal_passes n h = digits_pass (decimal n) (decimal_is_IsNumeral n h).0.1

no_zero : (ds : List ℕ) → 48 < get_or ds 0 0 → has_needless_zero ds ≡ false
no_zero [] h = refl
no_zero (b ∷ []) h = refl
no_zero (b ∷ c ∷ bs) h = grind (arith, nat_tests)

no_zero-decimal : (n : ℕ) → n < 2 ^ 64 → has_needless_zero (decimal n) ≡ false
no_zero-decimal zero h = rw (decimal_digit 0 (omega arith)) refl
no_zero-decimal (suc n) h = no_zero (decimal (suc n)) (first_decimal (suc n) (omega arith) h)

is_numeral-digits : (ds : List ℕ) → 0 < length ds → AllDigits 10 ds → is_numeral 10 ds ≡ true
is_numeral-digits ds some d = let long : nat_eq (length ds) 0 ≡ false = grind (arith, nat_tests) in rw long (are_digits ds d)

pub decimal_in-decimal : (n : ℕ) → n < 2 ^ 64 → decimal_in (decimal n) ≡ Some n
unfolding decimal_in number_in
decimal_in-decimal n h =
    let ((some, digits), same) = decimal_is_IsNumeral n h in
    rw (no_zero-decimal n h, is_numeral-digits (decimal n) some digits, same, lt-ltb n (2 ^ 64) h) refl

-- ---- and back

one_digit : (ds : List ℕ) → 0 < length ds → has_needless_zero ds ≡ false → get_or ds 0 0 ≡ 48 → length ds ≡ 1
one_digit [] some h e = absurd (omega arith)
one_digit (b ∷ []) some h e = omega arith
one_digit (b ∷ c ∷ bs) some h e = absurd (let no : ⊥ = grind (arith, nat_tests) in no)

some_digit : (ds : List ℕ) → is_numeral 10 ds ≡ true → 0 < length ds
some_digit [] h = absurd (let no : ⊥ = cc in no)
some_digit (b ∷ bs) h = omega arith

where_true : {n : ℕ} (x : Bool) (o : Option ℕ) → cond x o None ≡ Some n → (x ≡ true) × (o ≡ Some n)
where_true true o e = (refl, e)
where_true false o e = absurd (let no : ⊥ = cc in no)

where_false : {n : ℕ} (x : Bool) (o : Option ℕ) → cond x None o ≡ Some n → (x ≡ false) × (o ≡ Some n)
where_false true o e = absurd (let no : ⊥ = cc in no)
where_false false o e = (refl, e)

pub decimal_in_is : (n : ℕ) (ds : List ℕ) → decimal_in ds ≡ Some n → (ds ≡ decimal n) × (n < 2 ^ 64)
unfolding decimal_in number_in
decimal_in_is n ds h =
    let v = digits_value 10 ds in
    let (short, number) = where_false (has_needless_zero ds) (number_in 10 ds) h in
    let (numeral, word) = where_true (is_numeral 10 ds) (cond (nat_lt v (2 ^ 64)) (Some v) None) number in
    let (below, same) = cond_some (nat_lt v (2 ^ 64)) v n word in
    let fits : v < 2 ^ 64 = ltb-true v (2 ^ 64) below in
    let some = some_digit ds numeral in
    let digits = are_digits_is ds (both (not (nat_eq (length ds) 0)) (list_all (is_digit_in 10) ds) numeral).1 in
    let written = decimal-digits_value (numerals_by_value (AllDigits 10) tells_digits) ds digits some (one_digit ds some short) fits in
    (sym (ap decimal (sym same) ∙ written), subst (λ k. k < 2 ^ 64) same fits)

-- ---- numbers with a sign

is_minus : (b : ℕ) → nat_eq b 45 ≡ true → b ≡ 45
is_minus b h = grind (arith, nat_tests)

negative_is : (n : ℕ) (z : ℤ) → negative n ≡ Some z → FitsSigned w64 z × (45 ∷ decimal n ≡ signed_decimal z)
negative_is zero z h = absurd (let no : ⊥ = cc in no)
negative_is (suc n) z h =
    let (good, same) = cond_some (nat_le 1 (suc n) && nat_le (suc n) (2 ^ 63)) (negsuc n) z h in
    let (some, most) = both (nat_le 1 (suc n)) (nat_le (suc n) (2 ^ 63)) good in
    let le : suc n ≤ 2 ^ 63 = leb-true (suc n) (2 ^ 63) most in
    (subst (FitsSigned w64) same (record { sfits = omega arith }), ap signed_decimal same)

positive_is : (n : ℕ) (z : ℤ) → positive n ≡ Some z → FitsSigned w64 z × (decimal n ≡ signed_decimal z)
positive_is n z h =
    let (good, same) = cond_some (nat_lt n (2 ^ 63)) (pos n) z h in
    let lt : n < 2 ^ 63 = ltb-true n (2 ^ 63) good in
    (subst (FitsSigned w64) same (record { sfits = omega arith }), ap signed_decimal same)

int_by : (b : ℕ) (bs : List ℕ) (z : ℤ) (v : Bool) → nat_eq b 45 ≡ v → cond v (option_and_then negative (decimal_in bs)) (option_and_then positive (decimal_in (b ∷ bs))) ≡ Some z → FitsSigned w64 z × (b ∷ bs ≡ signed_decimal z)
int_by b bs z true e h =
    let (n, read, same) = bind_is negative (decimal_in bs) z h in
    let (fits, text) = negative_is n z same in
    (fits, ap (λ c. c ∷ bs) (is_minus b e) ∙ ap (λ ds. 45 ∷ ds) (decimal_in_is n bs read).0 ∙ text)
int_by b bs z false e h =
    let (n, read, same) = bind_is positive (decimal_in (b ∷ bs)) z h in
    let (fits, text) = positive_is n z same in
    (fits, (decimal_in_is n (b ∷ bs) read).0 ∙ text)

pub int_of_is : (z : ℤ) (text : List ℕ) → int_of text ≡ Some z → FitsSigned w64 z × (text ≡ signed_decimal z)
unfolding int_of
int_of_is z [] h = absurd (let no : ⊥ = cc in no)
int_of_is z (b ∷ bs) h = int_by b bs z (nat_eq b 45) refl h

no_minus : (text : List ℕ) → 0 < length text → Passes is_digit text → int_of text ≡ option_and_then positive (decimal_in text)
unfolding int_of
no_minus [] some p = absurd (omega arith)
no_minus (b ∷ bs) some p = let no : nat_eq b 45 ≡ false = grind (arith, nat_tests, digit_is b p.0) in rw no refl

pub int_of-signed : (z : ℤ) → FitsSigned w64 z → int_of (signed_decimal z) ≡ Some z
unfolding int_of
int_of-signed (pos n) fits =
    let lt : n < 2 ^ 63 = fits.sfits in
    let below : n < 2 ^ 64 = omega arith in
    no_minus (decimal n) (decimal_nonempty n below) (decimal_passes n below) ∙ ap (option_and_then positive) (decimal_in-decimal n below)
    ∙ ap (λ v. cond v (Some (pos n)) None) (lt-ltb n (2 ^ 63) lt)
int_of-signed (negsuc n) fits =
    let lt : n < 2 ^ 63 = fits.sfits in
    let below : suc n < 2 ^ 64 = omega arith in
    let most : nat_le (suc n) (2 ^ 63) ≡ true = le-leb (suc n) (2 ^ 63) (omega arith) in
    ap (option_and_then negative) (decimal_in-decimal (suc n) below) ∙ ap (λ v. cond (nat_le 1 (suc n) && v) (Some (negsuc n)) None) most
    ∙ ap (λ v. cond (v && true) (Some (negsuc n)) None) (le-leb 1 (suc n) (omega arith))
