-- The frames of the samples are frames.
use Rattle.std.proofs.Common.{◌≡◌, ℕ, zero, suc, ◌^◌, ◌≤◌, ◌<◌, [], ◌∷◌, codes, Bool, true, false, slice_get, Some, ℤ, pos, unsigned_abs, refl, sym, ap, ◌∙◌, subst, arith}
use Rattle.std.proofs.lemmas.Option.{same_Some}
use Rattle.std.specs.Str.{bytes_eq}
use Rattle.std.proofs.lemmas.Slice.Eq.{bytes_eq-Decides}
use Rattle.c_tree.specs.Plain.{Word}
use Rattle.c_tree.specs.declared.affine.Affine.{Affine}
use Rattle.c_tree.specs.declared.name.Name.{Name}
use Rattle.c_tree.specs.declared.frame.ArrayInfo.{ArrayInfo}
use Rattle.data_file.specs.Conditions.{IsFrame, IsSmallSum, names_in}
use Rattle.data_file.specs.Samples.{name_of, variable, line_frame, grid_frame, line_inputs, AreSamples}
use Rattle.data_file.specs.Checks.{Fits, is_outside, is_too_large, has_wrong_cells}
use Rattle.data_file.specs.Laws.{CanBeWritten}
use Rattle.std.proofs.lemmas.Fmt.{decimal_digit}

-- two words of one byte each are different
differ : (x y : ℕ) (z : Word) → bytes_eq (x ∷ []) (y ∷ []) ≡ false → Some (x ∷ []) ≡ Some z → Some (y ∷ []) ≡ Some z → ⊥
differ x y z apart p q = let same : x ∷ [] ≡ y ∷ [] = same_Some (x ∷ []) z p ∙ sym (same_Some (y ∷ []) z q) in
    let yes = (bytes_eq-Decides (x ∷ []) (y ∷ [])).1 same in let no : ⊥ = cc in no

small_variable : (v : ℕ) (e : Affine) → variable v ≡ e → IsSmallSum e
small_variable v e same = subst IsSmallSum same (record { constant_small = omega arith; terms_small = terms }) where
  terms : (k : ℕ) (t : ℕ × ℤ) → slice_get (variable v).terms k ≡ Some t → unsigned_abs t.1 ≤ 2 ^ 20
  terms zero t e = subst (λ (u : ℕ × ℤ). unsigned_abs u.1 ≤ 2 ^ 20) (same_Some (v, pos 1) t e) (omega arith)
  terms (suc k) t e = absurd (let no : ⊥ = cc in no)

range_is : (x : Name) (high : ℕ) (p : Name × ℤ × ℤ) → high ≤ 2 ^ 40 → (x, pos 1, pos high) ≡ p → (unsigned_abs p.1 ≤ 2 ^ 40) × (unsigned_abs p.2 ≤ 2 ^ 40)
range_is x high p le same = subst (λ (q : Name × ℤ × ℤ). (unsigned_abs q.1 ≤ 2 ^ 40) × (unsigned_abs q.2 ≤ 2 ^ 40)) same (omega arith, le)

one_extent : (x : Name) (c : Bool) (v : ℕ) (a : ArrayInfo) → record { name = x; constant = c; extents = variable v ∷ [] } ≡ a → (j : ℕ) (e : Affine) → slice_get a.extents j ≡ Some e → IsSmallSum e
one_extent x c v a same j e at = by j (ap (λ (b : ArrayInfo). slice_get b.extents j) same ∙ at) where
  by : (j : ℕ) → slice_get (variable v ∷ []) j ≡ Some e → IsSmallSum e
  by zero h = small_variable v e (same_Some (variable v) e h)
  by (suc j) h = absurd (let no : ⊥ = cc in no)

two_extents : (x : Name) (c : Bool) (v w : ℕ) (a : ArrayInfo) → record { name = x; constant = c; extents = variable v ∷ variable w ∷ [] } ≡ a → (j : ℕ) (e : Affine) → slice_get a.extents j ≡ Some e → IsSmallSum e
two_extents x c v w a same j e at = by j (ap (λ (b : ArrayInfo). slice_get b.extents j) same ∙ at) where
  by : (j : ℕ) → slice_get (variable v ∷ variable w ∷ []) j ≡ Some e → IsSmallSum e
  by zero h = small_variable v e (same_Some (variable v) e h)
  by (suc zero) h = small_variable w e (same_Some (variable w) e h)
  by (suc (suc j)) h = absurd (let no : ⊥ = cc in no)

pub line_is_frame : IsFrame line_frame
line_is_frame = record { names = names; ranges = ranges; extents = extents } where
  names : (j k : ℕ) (x : Word) → slice_get (names_in line_frame) j ≡ Some x → slice_get (names_in line_frame) k ≡ Some x → j ≡ k
  names zero zero x p q = refl
  names zero (suc zero) x p q = absurd (differ 110 65 x refl p q)
  names (suc zero) zero x p q = absurd (differ 65 110 x refl p q)
  names (suc zero) (suc zero) x p q = refl
  names zero (suc (suc k)) x p q = absurd (let no : ⊥ = cc in no)
  names (suc zero) (suc (suc k)) x p q = absurd (let no : ⊥ = cc in no)
  names (suc (suc j)) k x p q = absurd (let no : ⊥ = cc in no)

  ranges : (k : ℕ) (p : Name × ℤ × ℤ) → slice_get line_frame.ints k ≡ Some p → (unsigned_abs p.1 ≤ 2 ^ 40) × (unsigned_abs p.2 ≤ 2 ^ 40)
  ranges zero p e = range_is (name_of (codes "n")) 1000 p (omega arith) (same_Some _ p e)
  ranges (suc k) p e = absurd (let no : ⊥ = cc in no)

  extents : (k : ℕ) (a : ArrayInfo) → slice_get line_frame.arrays k ≡ Some a → (j : ℕ) (e : Affine) → slice_get a.extents j ≡ Some e → IsSmallSum e
  extents zero a e = one_extent (name_of (codes "A")) false 1 a (same_Some _ a e)
  extents (suc k) a e = absurd (let no : ⊥ = cc in no)

pub grid_is_frame : IsFrame grid_frame
grid_is_frame = record { names = names; ranges = ranges; extents = extents } where
  names : (j k : ℕ) (x : Word) → slice_get (names_in grid_frame) j ≡ Some x → slice_get (names_in grid_frame) k ≡ Some x → j ≡ k
  names zero zero x p q = refl
  names (suc zero) (suc zero) x p q = refl
  names (suc (suc zero)) (suc (suc zero)) x p q = refl
  names (suc (suc (suc zero))) (suc (suc (suc zero))) x p q = refl
  names zero (suc zero) x p q = absurd (differ 110 109 x refl p q)
  names zero (suc (suc zero)) x p q = absurd (differ 110 80 x refl p q)
  names zero (suc (suc (suc zero))) x p q = absurd (differ 110 88 x refl p q)
  names (suc zero) zero x p q = absurd (differ 109 110 x refl p q)
  names (suc zero) (suc (suc zero)) x p q = absurd (differ 109 80 x refl p q)
  names (suc zero) (suc (suc (suc zero))) x p q = absurd (differ 109 88 x refl p q)
  names (suc (suc zero)) zero x p q = absurd (differ 80 110 x refl p q)
  names (suc (suc zero)) (suc zero) x p q = absurd (differ 80 109 x refl p q)
  names (suc (suc zero)) (suc (suc (suc zero))) x p q = absurd (differ 80 88 x refl p q)
  names (suc (suc (suc zero))) zero x p q = absurd (differ 88 110 x refl p q)
  names (suc (suc (suc zero))) (suc zero) x p q = absurd (differ 88 109 x refl p q)
  names (suc (suc (suc zero))) (suc (suc zero)) x p q = absurd (differ 88 80 x refl p q)
  names zero (suc (suc (suc (suc k)))) x p q = absurd (let no : ⊥ = cc in no)
  names (suc zero) (suc (suc (suc (suc k)))) x p q = absurd (let no : ⊥ = cc in no)
  names (suc (suc zero)) (suc (suc (suc (suc k)))) x p q = absurd (let no : ⊥ = cc in no)
  names (suc (suc (suc zero))) (suc (suc (suc (suc k)))) x p q = absurd (let no : ⊥ = cc in no)
  names (suc (suc (suc (suc j)))) k x p q = absurd (let no : ⊥ = cc in no)

  ranges : (k : ℕ) (p : Name × ℤ × ℤ) → slice_get grid_frame.ints k ≡ Some p → (unsigned_abs p.1 ≤ 2 ^ 40) × (unsigned_abs p.2 ≤ 2 ^ 40)
  ranges zero p e = range_is (name_of (codes "n")) 4000 p (omega arith) (same_Some _ p e)
  ranges (suc zero) p e = range_is (name_of (codes "m")) 4000 p (omega arith) (same_Some _ p e)
  ranges (suc (suc k)) p e = absurd (let no : ⊥ = cc in no)

  extents : (k : ℕ) (a : ArrayInfo) → slice_get grid_frame.arrays k ≡ Some a → (j : ℕ) (e : Affine) → slice_get a.extents j ≡ Some e → IsSmallSum e
  extents zero a e = one_extent (name_of (codes "P")) true 1 a (same_Some _ a e)
  extents (suc zero) a e = two_extents (name_of (codes "X")) false 1 2 a (same_Some _ a e)
  extents (suc (suc k)) a e = absurd (let no : ⊥ = cc in no)

-- the number is 0, since it is below 1
only_zero : (P : ℕ → Type 0) → P 0 → (k : ℕ) → k < 1 → P k
only_zero P h zero lt = h
only_zero P h (suc k) lt = absurd (omega arith)

line_fits : Fits line_frame line_inputs
line_fits = record {
  within = only_zero (λ k. is_outside line_frame line_inputs.ints k ≡ false) refl;
  few = only_zero (λ k. is_too_large line_frame line_inputs.ints k ≡ false) refl;
  counted = only_zero (λ k. has_wrong_cells line_frame line_inputs k ≡ false) refl;
}

line_written : CanBeWritten line_frame line_inputs
line_written = record {
  rows = record { values = refl; cells = refl };
  values = (record { sfits = omega arith }, tt);
  cells = ((omega arith, (omega arith, (omega arith, (omega arith, (omega arith, tt))))), tt);
}

pub samples : AreSamples
samples = record {
  line = line_is_frame;
  grid = grid_is_frame;
  fit = line_fits;
  written = line_written;
  in_lines = ((refl, tt), ((refl, tt), tt));
  text = rw (decimal_digit 4 (omega arith), decimal_digit 5 (omega arith), decimal_digit 0 (omega arith)) refl;
}
