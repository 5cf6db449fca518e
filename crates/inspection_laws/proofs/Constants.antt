-- Literals under the operators of signed values: word arithmetic gives them the value that signed arithmetic does, modulo 2^64.
use Rattle.std.proofs.Common.{◌≡◌, ℕ, ◌+◌, ◌-◌, ◌*◌, ◌%◌, ◌^◌, ◌<◌, ℤ, pos, ◌+ℤ◌, ◌-ℤ◌, ◌*ℤ◌, neg_ℤ, List, refl, sym, ap, ◌∙◌, arith}
use Rattle.std.proofs.Math.Nat.{mod-lt, mod-eq_of_lt}
use Rattle.std.proofs.Math.Facts.{to_z_pos}
use Rattle.std.proofs.lemmas.Int.{ints, int_wrap_fits, SFits-int_wrap, of_z-to_z, wrapping_add-bits, wrapping_mul-bits, wrapping_sub_onto}
use Rattle.std.specs.Int.{w64, int_wrap, cast_signed, cast_unsigned}
use Rattle.std.specs.Int.RustNames.{FitsSigned}
use Rattle.c_tree.specs.Plain.{Word, PlainExpr, lit, un, bin}
use Rattle.c_tree.specs.Values.{Vars, signed, word_un, word_bin, as_word}
use Rattle.c_tree.specs.Run.{State, goes_on, Scope, word}
use Rattle.c_tree.specs.declared.expr.UnOp.TheVariants.{Neg}
use Rattle.c_tree.specs.declared.expr.BinOp.TheVariants.{Add, Sub, Mul}
use Rattle.c_tree.proofs.WordValues.{as_word_cast}
use Rattle.instrumentation.specs.Passes.{renamed}
use Rattle.inspection_laws.specs.Walked.{IsConstant}

-- its value in word arithmetic
abbrev pub constant : PlainExpr → ℕ
constant (lit n) = n
constant (un op a) = word_un op (constant a)
constant (bin op a b) = word_bin op (constant a) (constant b)
constant _ = 0

pub constant_given : (sc : Scope) (xs : List Word) (e : PlainExpr) (env : Vars) (t : State) → IsConstant e → word sc (renamed xs e) env t ≡ goes_on (constant e) t
constant_given sc xs (lit n) env t h = refl
constant_given sc xs (un Neg a) env t h = rw (constant_given sc xs a env t h) refl
constant_given sc xs (bin Add a b) env t h = rw (constant_given sc xs a env t h.0) (rw (constant_given sc xs b env t h.1) refl)
constant_given sc xs (bin Sub a b) env t h = rw (constant_given sc xs a env t h.0) (rw (constant_given sc xs b env t h.1) refl)
constant_given sc xs (bin Mul a b) env t h = rw (constant_given sc xs a env t h.0) (rw (constant_given sc xs b env t h.1) refl)
constant_given sc xs _ env t h = absurd h

pub constant_here : (sc : Scope) (e : PlainExpr) (env : Vars) (t : State) → IsConstant e → word sc e env t ≡ goes_on (constant e) t
constant_here sc (lit n) env t h = refl
constant_here sc (un Neg a) env t h = rw (constant_here sc a env t h) refl
constant_here sc (bin Add a b) env t h = rw (constant_here sc a env t h.0) (rw (constant_here sc b env t h.1) refl)
constant_here sc (bin Sub a b) env t h = rw (constant_here sc a env t h.0) (rw (constant_here sc b env t h.1) refl)
constant_here sc (bin Mul a b) env t h = rw (constant_here sc a env t h.0) (rw (constant_here sc b env t h.1) refl)
constant_here sc _ env t h = absurd h

-- the word that has the bits of the signed value
record HasBits (m : ℕ) (z : ℤ) : Type 0 where
  pub below : m < 2 ^ 64
  pub bits : cast_signed w64 m ≡ z

signed_fits : (e : PlainExpr) (vs : Vars) → IsConstant e → FitsSigned w64 (signed e vs)
signed_fits (lit n) vs h = SFits-int_wrap w64 (pos n)
signed_fits (un Neg a) vs h = SFits-int_wrap w64 (neg_ℤ (signed a vs))
signed_fits (bin Add a b) vs h = SFits-int_wrap w64 (signed a vs +ℤ signed b vs)
signed_fits (bin Sub a b) vs h = SFits-int_wrap w64 (signed a vs -ℤ signed b vs)
signed_fits (bin Mul a b) vs h = SFits-int_wrap w64 (signed a vs *ℤ signed b vs)
signed_fits _ vs h = absurd h

bits_of : (m : ℕ) (z : ℤ) → HasBits m z → cast_unsigned w64 z ≡ m
bits_of m z h = ap (cast_unsigned w64) (sym h.bits) ∙ of_z-to_z w64 m h.below

constant_bits : (e : PlainExpr) (vs : Vars) → IsConstant e → HasBits (constant e) (signed e vs)
constant_bits (lit n) vs h =
    let f : FitsSigned w64 (pos n) = record { sfits = h } in
    record { below = omega arith; bits = to_z_pos w64 h ∙ sym (int_wrap_fits w64 (pos n) f) }
constant_bits (un Neg a) vs h =
    let r : HasBits (constant a) (signed a vs) = constant_bits a vs h in
    let low = r.below in
    record {
      below = mod-lt (2 ^ 64 - constant a) (omega arith);
      bits = ap (λ k. cast_signed w64 (k % 2 ^ 64)) (let z : 2 ^ 64 - constant a ≡ 0 + (2 ^ 64 - constant a) = omega arith in z)
          ∙ ap (λ k. cast_signed w64 ((0 + (2 ^ 64 - k)) % 2 ^ 64)) (sym (bits_of (constant a) (signed a vs) r))
          ∙ wrapping_sub_onto w64 0 (signed a vs) (omega arith) (signed_fits a vs h)
          ∙ ap (int_wrap w64) (let z : pos 0 -ℤ signed a vs ≡ neg_ℤ (signed a vs) = omega (arith, ints) in z);
    }
constant_bits (bin Add a b) vs h =
    let p : HasBits (constant a) (signed a vs) = constant_bits a vs h.0 in
    let q : HasBits (constant b) (signed b vs) = constant_bits b vs h.1 in
    record {
      below = mod-lt (constant a + constant b) (omega arith);
      bits = wrapping_add-bits w64 (constant a) (constant b) p.below q.below ∙ ap (λ z. int_wrap w64 (z +ℤ cast_signed w64 (constant b))) p.bits ∙ ap (λ z. int_wrap w64 (signed a vs +ℤ z)) q.bits;
    }
constant_bits (bin Sub a b) vs h =
    let p : HasBits (constant a) (signed a vs) = constant_bits a vs h.0 in
    let q : HasBits (constant b) (signed b vs) = constant_bits b vs h.1 in
    record {
      below = mod-lt (constant a + (2 ^ 64 - constant b)) (omega arith);
      bits = ap (λ k. cast_signed w64 ((constant a + (2 ^ 64 - k)) % 2 ^ 64)) (sym (bits_of (constant b) (signed b vs) q))
          ∙ wrapping_sub_onto w64 (constant a) (signed b vs) p.below (signed_fits b vs h.1)
          ∙ ap (λ z. int_wrap w64 (z -ℤ signed b vs)) p.bits;
    }
constant_bits (bin Mul a b) vs h =
    let p : HasBits (constant a) (signed a vs) = constant_bits a vs h.0 in
    let q : HasBits (constant b) (signed b vs) = constant_bits b vs h.1 in
    record {
      below = mod-lt (constant a * constant b) (omega arith);
      bits = wrapping_mul-bits w64 (constant a) (constant b) p.below q.below ∙ ap (λ z. int_wrap w64 (z *ℤ cast_signed w64 (constant b))) p.bits ∙ ap (λ z. int_wrap w64 (signed a vs *ℤ z)) q.bits;
    }
constant_bits _ vs h = absurd h

-- where the signed value is small and not negative, the word is it
pub constant_is : (e : PlainExpr) (vs : Vars) (k : ℕ) → IsConstant e → signed e vs ≡ pos k → k < 2 ^ 64 → constant e ≡ k
constant_is e vs k h is small =
    let r : HasBits (constant e) (signed e vs) = constant_bits e vs h in
    sym (bits_of (constant e) (signed e vs) r) ∙ sym (as_word_cast (signed e vs) (signed_fits e vs h)) ∙ ap as_word is ∙ mod-eq_of_lt small
