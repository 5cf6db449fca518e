-- Doubling digits doubles the number, and the digits' text is `decimal`.
use Rattle.std.proofs.Common.{◌≡◌, ◌⊎◌, ℕ, zero, suc, ◌+◌, ◌*◌, ◌/◌, ◌%◌, ◌^◌, ◌<◌, ◌≤◌, false, List, [], ◌∷◌, ◌++◌, decimal, inl, inr, refl, sym, ap, ◌∙◌, append_assoc, add-zero, arith}
use Rattle.std.proofs.Math.Nat.{pow-succ'}
use Rattle.std.proofs.lemmas.Bool.{cases_lt}
use Rattle.std.proofs.lemmas.Fmt.{decimal_digit}
use Rattle.std.proofs.lemmas.List.{append-nil}
use Rattle.std.specs.Fmt.{digits, digits_onto}
use Rattle.c_printer.specs.Powers.{digits_of, all_digits, twice, digits_text}

digits_of-last : (k n : ℕ) → n < 10 → digits_of (suc k) n ≡ n ∷ []
digits_of-last k n low = grind arith

digits_of-more : (k n : ℕ) → 10 ≤ n → digits_of (suc k) n ≡ n % 10 ∷ digits_of k (n / 10)
digits_of-more k n high = grind arith

-- what a carry becomes behind the last digit
carried : (k place : ℕ) → place + k ≡ 64 → digits_of k 1 ≡ twice place 1 []
carried zero place e = grind arith
carried (suc k) place e = grind arith

halves : (n carry : ℕ) → (2 * n + carry) / 10 ≡ 2 * (n / 10) + (2 * (n % 10) + carry) / 10
halves n carry = omega arith

rests : (n carry : ℕ) → (2 * n + carry) % 10 ≡ (2 * (n % 10) + carry) % 10
rests n carry = omega arith

-- the last digit, doubled
last_twice : (k place carry n : ℕ) → place + suc k ≡ 64 → carry ≤ 1 → n < 10 → ((2 * n + carry) % 10) ∷ twice (place + 1) ((2 * n + carry) / 10) [] ≡ digits_of (suc k) (2 * n + carry)
last_twice k place carry n e low one = go (cases_lt (2 * n + carry) 10)
  where
    go : (2 * n + carry < 10) ⊎ (10 ≤ 2 * n + carry) → ((2 * n + carry) % 10) ∷ twice (place + 1) ((2 * n + carry) / 10) [] ≡ digits_of (suc k) (2 * n + carry)
    go (inl small) = grind (arith, digits_of-last k (2 * n + carry) small)
    go (inr large) =
        let q : (2 * n + carry) / 10 ≡ 1 = omega arith in
        ap (λ c. ((2 * n + carry) % 10) ∷ twice (place + 1) c []) q ∙ ap (λ ds. ((2 * n + carry) % 10) ∷ ds) (sym (carried k (place + 1) (omega arith)))
        ∙ ap (λ c. ((2 * n + carry) % 10) ∷ digits_of k c) (sym q) ∙ sym (digits_of-more k (2 * n + carry) large)

pub twice_is : (k place carry n : ℕ) → place + k ≡ 64 → carry ≤ 1 → twice place carry (digits_of k n) ≡ digits_of k (2 * n + carry)
twice_is zero place carry n e low = grind arith
twice_is (suc k) place carry n e low = go (cases_lt n 10) (twice_is k (place + 1) ((2 * (n % 10) + carry) / 10) (n / 10) (omega arith) (omega arith))
  where
    go : (n < 10) ⊎ (10 ≤ n) → twice (place + 1) ((2 * (n % 10) + carry) / 10) (digits_of k (n / 10)) ≡ digits_of k (2 * (n / 10) + (2 * (n % 10) + carry) / 10)
        → twice place carry (digits_of (suc k) n) ≡ digits_of (suc k) (2 * n + carry)
    go (inl small) rest = ap (twice place carry) (digits_of-last k n small) ∙ last_twice k place carry n e low small
    go (inr large) rest =
        ap (twice place carry) (digits_of-more k n large) ∙ ap (λ ds. ((2 * (n % 10) + carry) % 10) ∷ ds) rest
        ∙ ap (λ d. d ∷ digits_of k (2 * (n / 10) + (2 * (n % 10) + carry) / 10)) (sym (rests n carry))
        ∙ ap (λ m. ((2 * n + carry) % 10) ∷ digits_of k m) (sym (halves n carry)) ∙ sym (digits_of-more k (2 * n + carry) (omega arith))

-- the next power of two
pub twice_power : (e k : ℕ) → twice 0 0 (all_digits (2 ^ (e + k))) ≡ all_digits (2 ^ (e + (k + 1)))
unfolding all_digits
twice_power e k =
    let sum : e + (k + 1) ≡ suc (e + k) = omega arith in
    let next : 2 * 2 ^ (e + k) + 0 ≡ 2 ^ (e + (k + 1)) = add-zero (2 * 2 ^ (e + k)) ∙ sym (ap (λ i. 2 ^ i) sum ∙ pow-succ' 2 (e + k)) in
    twice_is 64 0 0 (2 ^ (e + k)) refl (omega arith) ∙ ap (digits_of 64) next

pub digits_text-append : (ds : List ℕ) (d : ℕ) → digits_text (ds ++ d ∷ []) ≡ decimal d ++ digits_text ds
digits_text-append [] d = sym (append-nil (decimal d))
digits_text-append (x ∷ ds) d = ap (λ t. t ++ decimal x) (digits_text-append ds d) ∙ append_assoc (decimal d) (digits_text ds) (decimal x)

onto-last : (k n : ℕ) (acc : List ℕ) → n < 10 → digits_onto (suc k) 10 false n acc ≡ (48 + n) ∷ acc
onto-last k n acc low = grind arith

onto-more : (k n : ℕ) (acc : List ℕ) → 10 ≤ n → digits_onto (suc k) 10 false n acc ≡ digits_onto k 10 false (n / 10) ((48 + n % 10) ∷ acc)
onto-more k n acc high = grind arith

onto_is : (k n : ℕ) (acc : List ℕ) → digits_onto k 10 false n acc ≡ digits_text (digits_of k n) ++ acc
onto_is zero n acc = refl
onto_is (suc k) n acc = go (cases_lt n 10) (decimal_digit (n % 10) (omega arith)) (onto_is k (n / 10) ((48 + n % 10) ∷ acc))
  where
    go : (n < 10) ⊎ (10 ≤ n) → decimal (n % 10) ≡ (48 + n % 10) ∷ [] → digits_onto k 10 false (n / 10) ((48 + n % 10) ∷ acc) ≡ digits_text (digits_of k (n / 10)) ++ ((48 + n % 10) ∷ acc)
        → digits_onto (suc k) 10 false n acc ≡ digits_text (digits_of (suc k) n) ++ acc
    go (inl small) glyph rest = onto-last k n acc small ∙ sym (ap (λ ds. digits_text ds ++ acc) (digits_of-last k n small) ∙ ap (λ t. t ++ acc) (decimal_digit n small))
    go (inr large) glyph rest =
        onto-more k n acc large ∙ rest
        ∙ sym (ap (λ ds. digits_text ds ++ acc) (digits_of-more k n large) ∙ ap (λ t. (digits_text (digits_of k (n / 10)) ++ t) ++ acc) glyph
        ∙ append_assoc (digits_text (digits_of k (n / 10))) ((48 + n % 10) ∷ []) acc)

-- the digits' text is what `decimal` writes
pub text_is : (n : ℕ) → digits_text (all_digits n) ≡ decimal n
unfolding digits all_digits
text_is n = sym (onto_is 64 n [] ∙ append-nil _)

-- the digits of 2 to the power of 16
pub first_digits : 6 ∷ 3 ∷ 5 ∷ 5 ∷ 6 ∷ [] ≡ all_digits (2 ^ 16)
unfolding all_digits
first_digits = refl
