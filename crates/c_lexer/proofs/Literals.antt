-- Which literals are read.
use Rattle.std.proofs.Common.{◌≡◌, ℕ, suc, ◌-◌, ◌^◌, ◌<◌, ◌≤◌, Bool, true, false, not, ◌&&◌, ◌||◌, cond, eqb, ltb, codes, List, [], ◌∷◌, ◌++◌, length, take, drop, slice_index, Some, None, refl, sym, ap, ◌∙◌, subst, ◌⊎◌, inl, inr, arith}
use Rattle.std.proofs.lemmas.Bool.{eqb-true, ltb-true, lt-ltb}
use Rattle.std.proofs.lemmas.Bool.Decides.{nat_tests}
use Rattle.std.proofs.lemmas.Option.{cond_some}
use Rattle.std.proofs.lemmas.List.{take_all}
use Rattle.std.proofs.Math.Seq.{take-suc}
use Rattle.std.specs.Str.{bytes_eq}
use Rattle.std.specs.List.{list_all}
use Rattle.std.specs.Char.{is_ascii_hexdigit}
use Rattle.std.specs.Str.Parse.{digits_value}
use Rattle.c_tree.specs.declared.token.TokenKind.TheVariants.{Literal}
use Rattle.c_tree.specs.Reserved.{is_digit}
use Rattle.c_tree.specs.Grammar.Tokens as g
use Rattle.c_tree.specs.Grammar.Tokens.{Text, IsForm, is_among, are_decimal, are_hexadecimal, suffixes}
use Rattle.text_pieces.specs.Fronts.{run, behind}
use Rattle.text_pieces.specs.Numbers.{is_digit_in, is_numeral, word, number_in, has_needless_zero, decimal_in}
use Rattle.text_pieces.proofs.Runs.{both, begins, run-behind, run_passes, run-front, behind-front, list_all-implies}
use Rattle.c_lexer.specs.Reading.{is_long, is_unsigned, is_suffix, decimal_literal, hexadecimal_literal, is_hexadecimal, literal}
use Rattle.c_lexer.proofs.Tests.{either, choose, not_true, yes_or_no, same_bytes, among_all}
use Rattle.c_lexer.proofs.Forms.{decimal_digits, hexadecimal_digits}

-- ---- suffixes

abbrev longs : List Text
longs = codes "" ∷ codes "l" ∷ codes "L" ∷ codes "ll" ∷ codes "LL" ∷ []

l_is : (b : ℕ) → (eqb b 108 || eqb b 76) ≡ true → (b ≡ 108) ⊎ (b ≡ 76)
l_is b h = by (either (eqb b 108) (eqb b 76) h) where
  by : (eqb b 108 ≡ true) ⊎ (eqb b 76 ≡ true) → (b ≡ 108) ⊎ (b ≡ 76)
  by (inl e) = inl (eqb-true b 108 e)
  by (inr e) = inr (eqb-true b 76 e)

u_is : (b : ℕ) → is_unsigned b ≡ true → (b ≡ 117) ⊎ (b ≡ 85)
u_is b h = by (either (eqb b 117) (eqb b 85) h) where
  by : (eqb b 117 ≡ true) ⊎ (eqb b 85 ≡ true) → (b ≡ 117) ⊎ (b ≡ 85)
  by (inl e) = inl (eqb-true b 117 e)
  by (inr e) = inr (eqb-true b 85 e)

long_is : (z : Text) → is_long z ≡ true → is_among longs z ≡ true
long_is [] h = refl
long_is (b ∷ []) h = by (l_is b h) where
  by : (b ≡ 108) ⊎ (b ≡ 76) → is_among longs (b ∷ []) ≡ true
  by (inl e) = subst (λ k. is_among longs (k ∷ []) ≡ true) (sym e) refl
  by (inr e) = subst (λ k. is_among longs (k ∷ []) ≡ true) (sym e) refl
long_is (b ∷ c ∷ []) h =
    let (first, same) = both (eqb b 108 || eqb b 76) (eqb b c) h in
    subst (λ k. is_among longs (b ∷ k ∷ []) ≡ true) (eqb-true b c same) (by (l_is b first)) where
      by : (b ≡ 108) ⊎ (b ≡ 76) → is_among longs (b ∷ b ∷ []) ≡ true
      by (inl e) = subst (λ k. is_among longs (k ∷ k ∷ []) ≡ true) (sym e) refl
      by (inr e) = subst (λ k. is_among longs (k ∷ k ∷ []) ≡ true) (sym e) refl
long_is (b ∷ c ∷ d ∷ z) h = absurd (let no : ⊥ = cc in no)

u_first : (b : ℕ) (z : Text) → is_unsigned b ≡ true → is_long z ≡ true → is_among suffixes (b ∷ z) ≡ true
u_first b z u h = by (u_is b u) where
  by : (b ≡ 117) ⊎ (b ≡ 85) → is_among suffixes (b ∷ z) ≡ true
  by (inl e) = subst (λ k. is_among suffixes (k ∷ z) ≡ true) (sym e) (among_all (λ y. is_among suffixes (117 ∷ y)) longs z (long_is z h) refl)
  by (inr e) = subst (λ k. is_among suffixes (k ∷ z) ≡ true) (sym e) (among_all (λ y. is_among suffixes (85 ∷ y)) longs z (long_is z h) refl)

u_last : (b : ℕ) (z : Text) → is_unsigned b ≡ true → is_long z ≡ true → is_among suffixes (z ++ b ∷ []) ≡ true
u_last b z u h = by (u_is b u) where
  by : (b ≡ 117) ⊎ (b ≡ 85) → is_among suffixes (z ++ b ∷ []) ≡ true
  by (inl e) = subst (λ k. is_among suffixes (z ++ k ∷ []) ≡ true) (sym e) (among_all (λ y. is_among suffixes (y ++ 117 ∷ [])) longs z (long_is z h) refl)
  by (inr e) = subst (λ k. is_among suffixes (z ++ k ∷ []) ≡ true) (sym e) (among_all (λ y. is_among suffixes (y ++ 85 ∷ [])) longs z (long_is z h) refl)

-- a text but for its last byte, and that byte
last_split : (z : Text) → 1 ≤ length z → z ≡ take (length z - 1) z ++ slice_index z (length z - 1) ∷ []
last_split z some =
    let n = length z - 1 in
    let e : suc n ≡ length z = omega arith in
    sym (take_all (suc n) z (omega arith)) ∙ take-suc z n 0 (omega arith)

some_bytes : (z : Text) → is_unsigned (slice_index z (length z - 1)) ≡ true → 1 ≤ length z
some_bytes [] h = absurd (let no : ⊥ = cc in no)
some_bytes (b ∷ z) h = omega arith

suffix_last : (z : Text) → cond (is_unsigned (slice_index z (length z - 1))) (is_long (take (length z - 1) z)) (is_long z) ≡ true → is_among suffixes z ≡ true
suffix_last z = choose (λ v. v ≡ true → is_among suffixes z ≡ true) (is_unsigned (slice_index z (length z - 1))) (is_long (take (length z - 1) z)) (is_long z)
    (λ u h. subst (λ y. is_among suffixes y ≡ true) (sym (last_split z (some_bytes z u))) (u_last (slice_index z (length z - 1)) (take (length z - 1) z) u h))
    (λ u h. among_all (is_among suffixes) longs z (long_is z h) refl)

pub suffix_sound : (z : Text) → is_suffix z ≡ true → is_among suffixes z ≡ true
unfolding is_suffix
suffix_sound [] h = refl
suffix_sound (b ∷ z) h = choose (λ v. v ≡ true → is_among suffixes (b ∷ z) ≡ true) (is_unsigned b) (is_long z) _ (λ u e. u_first b z u e) (λ u e. suffix_last (b ∷ z) e) h

pub suffix_complete : (z : Text) → is_among suffixes z ≡ true → is_suffix z ≡ true
unfolding is_suffix
suffix_complete z h = among_all is_suffix suffixes z h refl

suffix_no_digit : (z : Text) → is_among suffixes z ≡ true → begins is_digit z ≡ false
suffix_no_digit z h = not_true (begins is_digit z) (among_all (λ y. not (begins is_digit y)) suffixes z h refl)

suffix_no_hex : (z : Text) → is_among suffixes z ≡ true → begins is_ascii_hexdigit z ≡ false
suffix_no_hex z h = not_true (begins is_ascii_hexdigit z) (among_all (λ y. not (begins is_ascii_hexdigit y)) suffixes z h refl)

abbrev is_x : ℕ → Bool
is_x c = eqb c 120 || eqb c 88

suffix_no_x : (z : Text) → is_among suffixes z ≡ true → is_x (slice_index z 0) ≡ false
suffix_no_x z h = not_true (is_x (slice_index z 0)) (among_all (λ y. not (is_x (slice_index y 0))) suffixes z h refl)

-- ---- numbers

word_is : (n v : ℕ) → word n ≡ Some v → (n < 2 ^ 64) × (n ≡ v)
word_is n v h = let (small, same) = cond_some (ltb n (2 ^ 64)) n v h in (ltb-true n (2 ^ 64) small, same)

word_of : (n : ℕ) → n < 2 ^ 64 → word n ≡ Some n
word_of n h = rw (lt-ltb n (2 ^ 64) h) refl

pub number_is : (base : ℕ) (ds : Text) (v : ℕ) → number_in base ds ≡ Some v → (is_numeral base ds ≡ true) × (digits_value base ds < 2 ^ 64) × (digits_value base ds ≡ v)
unfolding number_in
number_is base ds v = choose (λ o. o ≡ Some v → (is_numeral base ds ≡ true) × (digits_value base ds < 2 ^ 64) × (digits_value base ds ≡ v)) (is_numeral base ds) (word (digits_value base ds)) None
    (λ n h. let (small, same) = word_is (digits_value base ds) v h in (n, small, same))
    (λ n h. absurd (let no : ⊥ = cc in no))

pub number_of : (base : ℕ) (ds : Text) → is_numeral base ds ≡ true → digits_value base ds < 2 ^ 64 → number_in base ds ≡ Some (digits_value base ds)
unfolding number_in
number_of base ds n h = rw n (word_of (digits_value base ds) h)

digit_in : (b : ℕ) → is_digit b ≡ true → is_digit_in 10 b ≡ true
digit_in b h = grind (arith, nat_tests)

hex_digit_in : (b : ℕ) → is_ascii_hexdigit b ≡ true → is_digit_in 16 b ≡ true
hex_digit_in b h = grind (arith, nat_tests)

some_length : (n : ℕ) → eqb (suc n) 0 ≡ false
some_length n = grind (arith, nat_tests)

numeral : (base : ℕ) (p : ℕ → Bool) → ((b : ℕ) → p b ≡ true → is_digit_in base b ≡ true) → (ds : Text) → begins p ds ≡ true → list_all p ds ≡ true → is_numeral base ds ≡ true
numeral base p h [] f a = absurd (let no : ⊥ = cc in no)
numeral base p h (d ∷ ds) f a = rw (some_length (length ds)) (list_all-implies p (is_digit_in base) h (d ∷ ds) a)

numeral_some : (base : ℕ) (ds : Text) (p : ℕ → Bool) → is_numeral base ds ≡ true → list_all p ds ≡ true → begins p ds ≡ true
numeral_some base [] p n a = absurd (let no : ⊥ = cc in no)
numeral_some base (d ∷ ds) p n a = (both (p d) (list_all p ds) a).0

-- ---- decimal literals

are_decimal_if : (ds : Text) → begins is_digit ds ≡ true → list_all is_digit ds ≡ true → has_needless_zero ds ≡ false → are_decimal ds ≡ true
are_decimal_if [] f a h = absurd (let no : ⊥ = cc in no)
are_decimal_if (d ∷ []) f a h = by (yes_or_no (eqb d 48)) where
  by : (eqb d 48 ≡ true) ⊎ (eqb d 48 ≡ false) → are_decimal (d ∷ []) ≡ true
  by (inl e) = rw e refl
  by (inr e) = rw e a
are_decimal_if (d ∷ e ∷ ds) f a h = rw h a

no_needless_zero : (ds : Text) → are_decimal ds ≡ true → has_needless_zero ds ≡ false
no_needless_zero [] h = refl
no_needless_zero (d ∷ []) h = refl
no_needless_zero (d ∷ e ∷ ds) h = by (either (eqb d 48 && false) (not (eqb d 48) && list_all is_digit (d ∷ e ∷ ds)) h) where
  by : ((eqb d 48 && false) ≡ true) ⊎ ((not (eqb d 48) && list_all is_digit (d ∷ e ∷ ds)) ≡ true) → eqb d 48 ≡ false
  by (inl f) = absurd (let no : false ≡ true = (both (eqb d 48) false f).1 in let more : ⊥ = cc in more)
  by (inr f) = not_true (eqb d 48) (both (not (eqb d 48)) (list_all is_digit (d ∷ e ∷ ds)) f).0

decimal_is : (ds : Text) (v : ℕ) → decimal_in ds ≡ Some v → (has_needless_zero ds ≡ false) × (number_in 10 ds ≡ Some v)
unfolding decimal_in
decimal_is ds v = choose (λ o. o ≡ Some v → (has_needless_zero ds ≡ false) × (number_in 10 ds ≡ Some v)) (has_needless_zero ds) None (number_in 10 ds)
    (λ z h. absurd (let no : ⊥ = cc in no))
    (λ z h. (z, h))

decimal_sound : (x : Text) (v : ℕ) → decimal_literal x ≡ Some v → IsForm x (Literal v)
unfolding decimal_literal
decimal_sound x v = choose (λ o. o ≡ Some v → IsForm x (Literal v)) (is_suffix (behind is_digit x)) (decimal_in (run is_digit x)) None
    (λ s h.
    let (short, number) = decimal_is (run is_digit x) v h in
    let (some, small, same) = number_is 10 (run is_digit x) v number in
    let digits = run_passes is_digit x in
    let form : IsForm (run is_digit x ++ behind is_digit x) (Literal (digits_value 10 (run is_digit x))) =
    g.decimal (run is_digit x) (behind is_digit x) (are_decimal_if (run is_digit x) (numeral_some 10 (run is_digit x) is_digit some digits) digits short) (suffix_sound (behind is_digit x) s) small in
    subst (λ k. IsForm x (Literal k)) same (subst (λ y. IsForm y (Literal (digits_value 10 (run is_digit x)))) (sym (run-behind is_digit x)) form))
    (λ s h. absurd (let no : ⊥ = cc in no))

decimal_complete : (ds suffix : Text) → are_decimal ds ≡ true → is_among suffixes suffix ≡ true → digits_value 10 ds < 2 ^ 64 → decimal_literal (ds ++ suffix) ≡ Some (digits_value 10 ds)
unfolding decimal_literal decimal_in
decimal_complete ds suffix a s small =
    let (first, all) = decimal_digits ds a in
    let front = run-front is_digit ds suffix all (suffix_no_digit suffix s) in
    let rest = behind-front is_digit ds suffix all (suffix_no_digit suffix s) in
    rw (front, rest, suffix_complete suffix s, no_needless_zero ds a) (number_of 10 ds (numeral 10 is_digit digit_in ds first all) small)

-- ---- hexadecimal literals

are_hexadecimal_if : (ds : Text) → begins is_ascii_hexdigit ds ≡ true → list_all is_ascii_hexdigit ds ≡ true → are_hexadecimal ds ≡ true
are_hexadecimal_if [] f a = absurd (let no : ⊥ = cc in no)
are_hexadecimal_if (d ∷ ds) f a = a

x_is : (x : Text) → is_hexadecimal x ≡ true → (y : Text) × (is_among (codes "0x" ∷ codes "0X" ∷ []) y ≡ true) × (x ≡ y ++ drop 2 x)
x_is [] h = absurd (let no : ⊥ = cc in no)
x_is (b ∷ []) h = absurd (let no : false ≡ true = (both (eqb b 48) false h).1 in let more : ⊥ = cc in more)
x_is (b ∷ c ∷ x) h =
    let (first, second) = both (eqb b 48) (is_x c) h in
    subst (λ k. (y : Text) × (is_among (codes "0x" ∷ codes "0X" ∷ []) y ≡ true) × (k ∷ c ∷ x ≡ y ++ x)) (sym (eqb-true b 48 first)) (by (either (eqb c 120) (eqb c 88) second)) where
      by : (eqb c 120 ≡ true) ⊎ (eqb c 88 ≡ true) → (y : Text) × (is_among (codes "0x" ∷ codes "0X" ∷ []) y ≡ true) × (48 ∷ c ∷ x ≡ y ++ x)
      by (inl e) = (codes "0x", refl, ap (λ k. 48 ∷ k ∷ x) (eqb-true c 120 e))
      by (inr e) = (codes "0X", refl, ap (λ k. 48 ∷ k ∷ x) (eqb-true c 88 e))

hexadecimal_sound : (y x : Text) (v : ℕ) → is_among (codes "0x" ∷ codes "0X" ∷ []) y ≡ true → hexadecimal_literal x ≡ Some v → IsForm (y ++ x) (Literal v)
unfolding hexadecimal_literal
hexadecimal_sound y x v p = choose (λ o. o ≡ Some v → IsForm (y ++ x) (Literal v)) (is_suffix (behind is_ascii_hexdigit x)) (number_in 16 (run is_ascii_hexdigit x)) None
    (λ s h.
    let (some, small, same) = number_is 16 (run is_ascii_hexdigit x) v h in
    let digits = run_passes is_ascii_hexdigit x in
    let form : IsForm (y ++ (run is_ascii_hexdigit x ++ behind is_ascii_hexdigit x)) (Literal (digits_value 16 (run is_ascii_hexdigit x))) =
    g.hexadecimal y (run is_ascii_hexdigit x) (behind is_ascii_hexdigit x) p (are_hexadecimal_if (run is_ascii_hexdigit x) (numeral_some 16 (run is_ascii_hexdigit x) is_ascii_hexdigit some digits) digits) (suffix_sound (behind is_ascii_hexdigit x) s) small in
    subst (λ k. IsForm (y ++ x) (Literal k)) same (subst (λ z. IsForm (y ++ z) (Literal (digits_value 16 (run is_ascii_hexdigit x)))) (sym (run-behind is_ascii_hexdigit x)) form))
    (λ s h. absurd (let no : ⊥ = cc in no))

hexadecimal_complete : (ds suffix : Text) → are_hexadecimal ds ≡ true → is_among suffixes suffix ≡ true → digits_value 16 ds < 2 ^ 64 → hexadecimal_literal (ds ++ suffix) ≡ Some (digits_value 16 ds)
unfolding hexadecimal_literal
hexadecimal_complete ds suffix a s small =
    let (first, all) = hexadecimal_digits ds a in
    let front = run-front is_ascii_hexdigit ds suffix all (suffix_no_hex suffix s) in
    let rest = behind-front is_ascii_hexdigit ds suffix all (suffix_no_hex suffix s) in
    rw (front, rest, suffix_complete suffix s) (number_of 16 ds (numeral 16 is_ascii_hexdigit hex_digit_in ds first all) small)

-- ---- literals

digit_no_x : (b : ℕ) → is_digit b ≡ true → is_x b ≡ false
digit_no_x b h = grind (arith, nat_tests)

no_x : (ds suffix : Text) → are_decimal ds ≡ true → is_among suffixes suffix ≡ true → is_hexadecimal (ds ++ suffix) ≡ false
no_x [] suffix a s = absurd (let no : ⊥ = cc in no)
no_x (d ∷ []) suffix a s = by (eqb d 48) where
  by : (v : Bool) → (v && is_x (slice_index suffix 0)) ≡ false
  by true = suffix_no_x suffix s
  by false = refl
no_x (d ∷ e ∷ ds) suffix a s = by (eqb d 48) where
  second : is_digit e ≡ true
  second = (both (is_digit e) (list_all is_digit ds) (both (is_digit d) (list_all is_digit (e ∷ ds)) (decimal_digits (d ∷ e ∷ ds) a).1).1).0

  by : (v : Bool) → (v && is_x e) ≡ false
  by true = digit_no_x e second
  by false = refl

pub literal_sound : (x : Text) (v : ℕ) → literal x ≡ Some v → IsForm x (Literal v)
unfolding literal
literal_sound x v = choose (λ o. o ≡ Some v → IsForm x (Literal v)) (is_hexadecimal x) (hexadecimal_literal (drop 2 x)) (decimal_literal x)
    (λ hex h. let (y, p, e) = x_is x hex in subst (λ z. IsForm z (Literal v)) (sym e) (hexadecimal_sound y (drop 2 x) v p h))
    (λ hex h. decimal_sound x v h)

hexadecimal_literal_is : (y ds suffix : Text) → is_among (codes "0x" ∷ codes "0X" ∷ []) y ≡ true → literal (y ++ (ds ++ suffix)) ≡ hexadecimal_literal (ds ++ suffix)
unfolding literal
hexadecimal_literal_is y ds suffix p = by (either (bytes_eq y (codes "0x")) (bytes_eq y (codes "0X") || false) p) where
  by : (bytes_eq y (codes "0x") ≡ true) ⊎ ((bytes_eq y (codes "0X") || false) ≡ true) → literal (y ++ (ds ++ suffix)) ≡ hexadecimal_literal (ds ++ suffix)
  by (inl e) = subst (λ z. literal (z ++ (ds ++ suffix)) ≡ hexadecimal_literal (ds ++ suffix)) (sym (same_bytes y (codes "0x") e)) refl
  by (inr e) = subst (λ z. literal (z ++ (ds ++ suffix)) ≡ hexadecimal_literal (ds ++ suffix)) (sym (same_bytes y (codes "0X") (last (either (bytes_eq y (codes "0X")) false e)))) refl where
    last : (bytes_eq y (codes "0X") ≡ true) ⊎ (false ≡ true) → bytes_eq y (codes "0X") ≡ true
    last (inl f) = f
    last (inr f) = absurd (let no : ⊥ = cc in no)

pub literal_complete : (x : Text) (v : ℕ) → IsForm x (Literal v) → literal x ≡ Some v
unfolding literal
literal_complete x v (g.decimal ds suffix a s small) = rw (no_x ds suffix a s) (decimal_complete ds suffix a s small)
literal_complete x v (g.hexadecimal y ds suffix p a s small) = hexadecimal_literal_is y ds suffix p ∙ hexadecimal_complete ds suffix a s small
