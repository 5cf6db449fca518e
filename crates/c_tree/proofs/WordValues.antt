-- A signed number as a word and as a wide value: below the end of its type, and what a cast gives where the number fits.
use Rattle.std.proofs.Common.{◌≡◌, ℕ, ◌-◌, ◌^◌, ◌<◌, ℤ, pos, negsuc, ap, ◌∙◌, arith}
use Rattle.std.proofs.Math.Nat.{mod-lt, mod-eq_of_lt}
use Rattle.std.specs.Int.{w64, w128, cast_unsigned}
use Rattle.std.specs.Int.RustNames.{FitsSigned}
use Rattle.c_tree.specs.Values.{as_word, as_wide, remainder}

pub remainder_fits : (m : ℕ) (z : ℤ) → 0 < m → remainder m z < m
remainder_fits m (pos n) h = mod-lt n h
remainder_fits m (negsuc n) h = omega arith

pub as_word_fits : (z : ℤ) → as_word z < 2 ^ 64
as_word_fits z = remainder_fits (2 ^ 64) z (omega arith)

pub as_wide_fits : (z : ℤ) → as_wide z < 2 ^ 128
as_wide_fits z = remainder_fits (2 ^ 128) z (omega arith)

pub as_word_cast : (z : ℤ) → FitsSigned w64 z → as_word z ≡ cast_unsigned w64 z
as_word_cast (pos n) f = mod-eq_of_lt (omega (arith, f.sfits))
as_word_cast (negsuc n) f = ap (λ k. 2 ^ 64 - 1 - k) (mod-eq_of_lt (omega (arith, f.sfits))) ∙ omega arith

pub as_wide_cast : (z : ℤ) → FitsSigned w128 z → as_wide z ≡ cast_unsigned w128 z
as_wide_cast (pos n) f = mod-eq_of_lt (omega (arith, f.sfits))
as_wide_cast (negsuc n) f = ap (λ k. 2 ^ 128 - 1 - k) (mod-eq_of_lt (omega (arith, f.sfits))) ∙ omega arith
