-- Numbers that digits write.
use Rattle.std.specs.Prelude.{ℕ, ◌^◌, Bool, false, not, ◌&&◌, if◌then◌else◌, nat_eq, nat_lt, List, [], ◌∷◌, length, Option, Some, None}
use Rattle.std.specs.List.{list_all}
use Rattle.std.specs.Char.{digit_value}
use Rattle.std.specs.Str.Parse.{digits_value}

abbrev pub is_digit_in : ℕ → ℕ → Bool
is_digit_in base b = nat_lt (digit_value b) base

-- one digit of the base or more
abbrev pub is_numeral : ℕ → List ℕ → Bool
is_numeral base digits = not (nat_eq (length digits) 0) && list_all (is_digit_in base) digits

-- a number below 2^64
abbrev pub word : ℕ → Option ℕ
word n = if nat_lt n (2 ^ 64) then Some n else None

-- the number that the digits write
unfoldable pub number_in : ℕ → List ℕ → Option ℕ
number_in base digits = if is_numeral base digits then word (digits_value base digits) else None

-- a zero before another digit
abbrev pub has_needless_zero : List ℕ → Bool
has_needless_zero [] = false
has_needless_zero (b ∷ []) = false
has_needless_zero (b ∷ c ∷ bs) = nat_eq b 48

-- the same in base 10, without a needless zero
unfoldable pub decimal_in : List ℕ → Option ℕ
decimal_in digits = if has_needless_zero digits then None else number_in 10 digits
