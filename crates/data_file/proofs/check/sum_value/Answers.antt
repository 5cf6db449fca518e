use Rattle.std.proofs.Common.{◌≡◌, ◌∙◌, ◌+◌, ◌*◌, ◌^◌, ◌≤◌, ◌<◌, ◌+ℤ◌, ℤ, pos, ℕ, get_or, fold, drop, to_z, of_z, w64, unsigned_abs, FitsSigned, subst, sym, ap, arith, rules}
use Rattle.std.proofs.lemmas.Int.{to_z-of_z, fits_signed_from_abs}
use Rattle.std.specs.Int.{w128}
use Rattle.data_file.specs.Checks.{term_value}
use Rattle.data_file.proofs.Sums.{small_more, summed_more}
use Rattle.data_file.proofs.check.sum_value.Goals as goal

pub overflow_add-total : goal.overflow_add-total
overflow_add-total c =
    let items = c.as_slice-variable-items.result.now in
    let k = c.loop-variable.variable-index in
    let total = to_z w128 c.loop-variable.total-bits in
    let r = c.term_value-total.result in
    let read : FitsSigned w128 r = record { sfits = c.term_value-total.type_inv } in
    let item : FitsSigned w64 (get_or items k (0, pos 0)).1 = search rules in
    let small : unsigned_abs (total +ℤ r) ≤ 2 ^ 20 + (k + 1) * 2 ^ 60 =
    small_more c.args.ints.now c.args.sum.now.terms items k total r (to_z w64 (of_z w64 (get_or items k (0, pos 0)).1)) c.loop-variable-test.true c.as_slice-variable-items.ensures
    (to_z-of_z w64 (get_or items k (0, pos 0)).1 item) c.term_value-total.ensures c.requires.values c.requires.small.terms_small c.loop-variable.invariant.small in
    let below : k < 2 ^ 64 = omega arith in
    subst (λ (z : ℤ). FitsSigned w128 (total +ℤ z)) (sym (to_z-of_z w128 r read)) (fits_signed_from_abs w128 (total +ℤ r) (omega (arith, small, below)))

pub loop-variable-preserved : goal.loop-variable-preserved
loop-variable-preserved c =
    let items = c.as_slice-variable-items.result.now in
    let k = c.loop-variable.variable-index in
    let total = to_z w128 c.loop-variable.total-bits in
    let r = c.term_value-total.result in
    let read : FitsSigned w128 r = record { sfits = c.term_value-total.type_inv } in
    let item : FitsSigned w64 (get_or items k (0, pos 0)).1 = search rules in
    let small : unsigned_abs (total +ℤ r) ≤ 2 ^ 20 + (k + 1) * 2 ^ 60 =
    small_more c.args.ints.now c.args.sum.now.terms items k total r (to_z w64 (of_z w64 (get_or items k (0, pos 0)).1)) c.loop-variable-test.true c.as_slice-variable-items.ensures
    (to_z-of_z w64 (get_or items k (0, pos 0)).1 item) c.term_value-total.ensures c.requires.values c.requires.small.terms_small c.loop-variable.invariant.small in
    let below : k < 2 ^ 64 = omega arith in
    let fits : FitsSigned w128 (total +ℤ r) = fits_signed_from_abs w128 (total +ℤ r) (omega (arith, small, below)) in
    let term = to_z-of_z w128 r read in
    let sum : to_z w128 (of_z w128 (total +ℤ to_z w128 (of_z w128 r))) ≡ total +ℤ r =
    ap (λ (z : ℤ). to_z w128 (of_z w128 (total +ℤ z))) term ∙ to_z-of_z w128 (total +ℤ r) fits in
    let summed = summed_more c.args.ints.now c.args.sum.now.terms items k total r (to_z w64 (of_z w64 (get_or items k (0, pos 0)).1)) c.loop-variable-test.true c.as_slice-variable-items.ensures
    (to_z-of_z w64 (get_or items k (0, pos 0)).1 item) c.term_value-total.ensures c.loop-variable.invariant.summed in
    record {
      summed = ap (λ (z : ℤ). fold (λ (y : ℤ) (t : ℕ × ℤ). y +ℤ term_value c.args.ints.now t) z (drop (k + 1) items)) sum ∙ summed;
      small = subst (λ (z : ℤ). unsigned_abs z ≤ 2 ^ 20 + (k + 1) * 2 ^ 60) (sym sum) small;
    }
