-- Values: signed, words and wide.
use Rattle.std.specs.Prelude.{ℕ, zero, suc, ◌+◌, ◌-◌, ◌*◌, ◌/◌, ◌%◌, ◌^◌, Bool, true, false, not, ◌||◌, if◌then◌else◌, nat_lt, nat_le, nat_eq, List, [], ◌∷◌, ℤ, pos, negsuc, ◌+ℤ◌, ◌-ℤ◌, ◌*ℤ◌, neg_ℤ, int_lt, int_le, bit_and, bit_or, bit_xor, bytes_eq}
use Rattle.std.specs.Int.{w64, int_wrap, int_gap, int_min, int_max}
use Rattle.std.specs.Ordering.{int_eq}
use Rattle.c_tree.specs.Plain.{Word, PlainExpr, lit, var, cell, un, bin, cast, test, umin, umax, least, greatest, widen, big}
use Rattle.c_tree.specs.Kinds.{Kind, kind as kind_by}
use Rattle.c_tree.specs.declared.expr.Rel.{Rel}
use Rattle.c_tree.specs.declared.expr.Rel.TheVariants.{Lt, Le, Gt, Ge, Eq, Ne}
use Rattle.c_tree.specs.declared.expr.UnOp.{UnOp}
use Rattle.c_tree.specs.declared.expr.UnOp.TheVariants.{Neg, Inv}
use Rattle.c_tree.specs.declared.expr.BinOp.{BinOp}
use Rattle.c_tree.specs.declared.expr.BinOp.TheVariants.{Add, Sub, Mul, Div, Rem, Shl, Shr, And, Xor, Or}

-- parameters and loop values by name, the innermost first
abbrev pub Vars : Type 0
Vars = List (Word × ℤ)

-- the value of a name, 0 where it has none
abbrev pub value_in : Vars → Word → ℤ
value_in [] x = pos 0
value_in (v ∷ vs) x = if bytes_eq v.0 x then v.1 else value_in vs x

abbrev pub is_in : Vars → Word → Bool
is_in [] x = false
is_in (v ∷ vs) x = bytes_eq v.0 x || is_in vs x

abbrev pub signed_bin : BinOp → ℤ → ℤ → ℤ
signed_bin Add a b = a +ℤ b
signed_bin Sub a b = a -ℤ b
signed_bin Mul a b = a *ℤ b
signed_bin _ a b = pos 0

-- a signed expression, each step of which is taken to a value that fits
abbrev pub signed_by : (ℤ → ℤ) → PlainExpr → Vars → ℤ
signed_by fit (lit n) vs = fit (pos n)
signed_by fit (var x) vs = value_in vs x
signed_by fit (cell x at) vs = pos 0
signed_by fit (un op a) vs = fit (neg_ℤ (signed_by fit a vs))
signed_by fit (bin op a b) vs = fit (signed_bin op (signed_by fit a vs) (signed_by fit b vs))
signed_by fit (cast a) vs = pos 0
signed_by fit (test rel a b) vs = pos 0
signed_by fit (umin a b) vs = pos 0
signed_by fit (umax a b) vs = pos 0
signed_by fit (least a b) vs = int_min (signed_by fit a vs) (signed_by fit b vs)
signed_by fit (greatest a b) vs = int_max (signed_by fit a vs) (signed_by fit b vs)
signed_by fit (widen a) vs = pos 0
signed_by fit (big high low) vs = pos 0

-- its value as a whole number
abbrev pub exact : PlainExpr → Vars → ℤ
exact = signed_by (λ z. z)

-- its value modulo 2^64 in two's complement
abbrev pub signed : PlainExpr → Vars → ℤ
signed = signed_by (int_wrap w64)

-- what is left of a whole number modulo m
abbrev pub remainder : ℕ → ℤ → ℕ
remainder m (pos n) = n % m
remainder m (negsuc n) = m - 1 - n % m

-- the value of a signed number as a word and as a wide value
abbrev pub as_word : ℤ → ℕ
as_word = remainder (2 ^ 64)

abbrev pub as_wide : ℤ → ℕ
as_wide = remainder (2 ^ 128)

abbrev pub word_un : UnOp → ℕ → ℕ
word_un Neg a = (2 ^ 64 - a) % 2 ^ 64
word_un Inv a = 2 ^ 64 - 1 - a

abbrev pub word_bin : BinOp → ℕ → ℕ → ℕ
word_bin Add a b = (a + b) % 2 ^ 64
word_bin Sub a b = (a + (2 ^ 64 - b)) % 2 ^ 64
word_bin Mul a b = (a * b) % 2 ^ 64
word_bin Div a b = a / b
word_bin Rem a b = a % b
word_bin Shl a b = (a * 2 ^ b) % 2 ^ 64
word_bin Shr a b = a / 2 ^ b
word_bin And a b = bit_and a b
word_bin Xor a b = bit_xor a b
word_bin Or a b = bit_or a b

abbrev pub wide_bin : BinOp → ℕ → ℕ → ℕ
wide_bin Add a b = (a + b) % 2 ^ 128
wide_bin Mul a b = (a * b) % 2 ^ 128
wide_bin Div a b = a / b
wide_bin _ a b = 0

abbrev pub signed_holds : Rel → ℤ → ℤ → Bool
signed_holds Lt a b = int_lt a b
signed_holds Le a b = int_le a b
signed_holds Gt a b = int_lt b a
signed_holds Ge a b = int_le b a
signed_holds Eq a b = int_eq a b
signed_holds Ne a b = not (int_eq a b)

abbrev pub word_holds : Rel → ℕ → ℕ → Bool
word_holds Lt a b = nat_lt a b
word_holds Le a b = nat_le a b
word_holds Gt a b = nat_lt b a
word_holds Ge a b = nat_le b a
word_holds Eq a b = nat_eq a b
word_holds Ne a b = not (nat_eq a b)

abbrev pub as_bit : Bool → ℕ
as_bit true = 1
as_bit false = 0

-- how many values a loop has, which begins at lo and goes up to hi
abbrev pub count_of : ℤ → Rel → ℤ → ℕ
count_of lo Lt hi = int_gap lo hi
count_of lo Le hi = int_gap lo (hi +ℤ pos 1)
count_of lo _ hi = 0

-- the first numbers from lo on
abbrev pub from_on : ℤ → ℕ → List ℤ
from_on lo zero = []
from_on lo (suc n) = lo ∷ from_on (lo +ℤ pos 1) n

-- the values of a loop, from the first to the last
abbrev pub loop_values : ℤ → Rel → ℤ → List ℤ
loop_values lo rel hi = from_on lo (count_of lo rel hi)

-- ---- kinds

-- the kind of an expression where these are the parameters and the loops around
abbrev pub kind : Vars → PlainExpr → Kind
kind vs = kind_by (is_in vs)
