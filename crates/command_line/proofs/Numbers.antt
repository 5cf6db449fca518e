-- The number of a demonstration, as the code reads it.
use Rattle.std.proofs.Common.{◌≡◌, ◌∙◌, ◌≤◌, ◌<◌, ◌^◌, ℕ, Bool, true, false, ◌&&◌, cond, List, length, nat_le, nat_lt, Option, Some, None, refl, ap, sym, arith}
use Rattle.std.specs.Str.Parse.{digits_value}
use Rattle.text_pieces.specs.Numbers.{is_numeral, number_in}
use Rattle.command_line.specs.Orders.{number_of}

-- a number, where it is in range
abbrev pub capped : Option ℕ → Option ℕ
capped None = None
capped (Some n) = cond (nat_le n 399) (Some n) None

too_large : (n : ℕ) → nat_lt n (2 ^ 64) ≡ false → nat_le n 399 ≡ false
too_large n h = grind arith

is_at_most : (n m : ℕ) → n ≤ m → nat_le n m ≡ true
is_at_most n m h = grind arith

is_above : (n m : ℕ) → m < n → nat_le n m ≡ false
is_above n m h = grind arith

by_parts : (numeral fits : Bool) (n : ℕ) → nat_lt n (2 ^ 64) ≡ fits
    → cond (numeral && nat_le n 399) (Some n) None ≡ capped (cond numeral (cond fits (Some n) None) None)
by_parts false fits n is = refl
by_parts true true n is = refl
by_parts true false n is = rw (too_large n is) refl

numbers : (word : List ℕ) → length word ≤ 5 → number_of word ≡ capped (number_in 10 word)
unfolding number_in
numbers word h =
    let value = digits_value 10 word in
    ap (λ short. cond (is_numeral 10 word && (short && nat_le value 399)) (Some value) None) (is_at_most (length word) 5 h)
    ∙ by_parts (is_numeral 10 word) (nat_lt value (2 ^ 64)) value refl

pub taken : (word : List ℕ) (number : ℕ) (read : Option ℕ) → length word ≤ 5 → read ≡ number_in 10 word → read ≡ Some number → number ≤ 399 → Some number ≡ number_of word
taken word number read short is at low =
    sym (numbers word short ∙ ap capped (sym is ∙ at) ∙ ap (λ b. cond b (Some number) None) (is_at_most number 399 low))

pub past : (word : List ℕ) (number : ℕ) (read : Option ℕ) → length word ≤ 5 → read ≡ number_in 10 word → read ≡ Some number → 399 < number → None ≡ number_of word
past word number read short is at high =
    sym (numbers word short ∙ ap capped (sym is ∙ at) ∙ ap (λ b. cond b (Some number) None) (is_above number 399 high))

pub none : (word : List ℕ) (read : Option ℕ) → length word ≤ 5 → read ≡ number_in 10 word → read ≡ None → None ≡ number_of word
none word read short is at = sym (numbers word short ∙ ap capped (sym is ∙ at))
