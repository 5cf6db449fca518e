-- Inputs fit a unit exactly where they fit its frame.
use Rattle.std.proofs.Common.{◌≡◌, ◌≤ℤ◌, ℕ, zero, suc, ◌<◌, ◌≤◌, Bool, true, false, not, ◌||◌, ◌==◌, nat_lt, int_lt, List, [], ◌∷◌, length, map, slice_get, Some, ℤ, refl, sym, ap, ◌∙◌, subst, arith}
use Rattle.std.proofs.lemmas.Bool.{or_parts}
use Rattle.std.proofs.lemmas.Bool.Decides.{nat_tests}
use Rattle.std.proofs.lemmas.Int.{ints}
use Rattle.std.specs.List.{AllByRecursion}
use Rattle.c_tree.specs.Arrays.{cell_count, arrays_of, vars_of, extents_of}
use Rattle.c_tree.specs.Inputs.{PlainInputs, IsBetween, AreInRange, HaveCells, Fit}
use Rattle.c_tree.specs.Plain.{Word, PlainExprs, no_exprs, more_exprs, PlainParam, int_param, array_param, PlainUnit}
use Rattle.c_tree.specs.Values.{exact}
use Rattle.c_tree.specs.declared.affine.Affine.{Affine}
use Rattle.c_tree.specs.declared.frame.ArrayInfo.{ArrayInfo}
use Rattle.c_tree.specs.declared.frame.Frame.{Frame}
use Rattle.c_tree.specs.declared.name.Name.{Name}
use Rattle.data_file.specs.Checks.{outside, sum_value, cells_of_array, count_in, length_in}
use Rattle.data_file.specs.Frames.{AreInts, AreExtents, AreArrays, IsFrameOf, AreWords, FitsFrame}

-- ---- ranges

within_range : (low high n : ℤ) → (int_lt n low || int_lt high n) ≡ false → (low ≤ℤ n) × (n ≤ℤ high)
within_range low high n h =
    let parts = or_parts (int_lt n low) (int_lt high n) h in
    (omega (arith, ints, parts.0), omega (arith, ints, parts.1))

not_less : (m n : ℤ) → n ≤ℤ m → int_lt m n ≡ false
not_less m n h = by (int_lt m n) refl where
  by : (b : Bool) → int_lt m n ≡ b → int_lt m n ≡ false
  by true e = absurd (omega (arith, ints, e))
  by false e = e

not_outside : (low high n : ℤ) → (low ≤ℤ n) × (n ≤ℤ high) → (int_lt n low || int_lt high n) ≡ false
not_outside low high n h = ap (λ b. b || int_lt high n) (not_less n low h.0) ∙ not_less high n h.1

abbrev AreInside : List (Name × ℤ × ℤ) → List ℤ → Type 0
AreInside ints ns = (k : ℕ) → k < length ints → outside (slice_get ints k) (slice_get ns k) ≡ false

one_more : (p : Name × ℤ × ℤ) (ints : List (Name × ℤ × ℤ)) (n : ℤ) (ns : List ℤ) → outside (Some p) (Some n) ≡ false → AreInside ints ns → AreInside (p ∷ ints) (n ∷ ns)
one_more p ints n ns here more zero below = here
one_more p ints n ns here more (suc k) below = more k (omega arith)

module _ (rs : List (Word × ℤ × ℤ)) where
  inside : (ps : List PlainParam) (ints : List (Name × ℤ × ℤ)) (ns : List ℤ) → AreInts rs ps ints → AreInRange rs ps ns → (length ns ≡ length ints) × AreInside ints ns
  inside [] [] [] a h = (refl, λ k below. absurd (omega arith))
  inside [] [] (n ∷ ns) a h = absurd h
  inside [] (p ∷ ints) ns a h = absurd a
  inside (array_param x constant extents ∷ ps) ints ns a h = inside ps ints ns a h
  inside (int_param x ∷ ps) [] ns a h = absurd a
  inside (int_param x ∷ ps) (p ∷ ints) [] a h = absurd h
  inside (int_param x ∷ ps) (p ∷ ints) (n ∷ ns) a h =
      let rest = inside ps ints ns a.2 h.1 in
      let here : (p.1 ≤ℤ n) × (n ≤ℤ p.2) = subst (λ o. IsBetween o n) a.1 h.0 in
      (ap suc rest.0, one_more p ints n ns (not_outside p.1 p.2 n here) rest.1)

  in_range : (ps : List PlainParam) (ints : List (Name × ℤ × ℤ)) (ns : List ℤ) → AreInts rs ps ints → length ns ≡ length ints → AreInside ints ns → AreInRange rs ps ns
  in_range [] [] [] a count h = tt
  in_range [] [] (n ∷ ns) a count h = absurd (omega arith)
  in_range [] (p ∷ ints) ns a count h = absurd a
  in_range (array_param x constant extents ∷ ps) ints ns a count h = in_range ps ints ns a count h
  in_range (int_param x ∷ ps) [] ns a count h = absurd a
  in_range (int_param x ∷ ps) (p ∷ ints) [] a count h = absurd (omega arith)
  in_range (int_param x ∷ ps) (p ∷ ints) (n ∷ ns) a count h =
      let here = within_range p.1 p.2 n (h 0 (omega arith)) in
      (subst (λ o. IsBetween o n) (sym a.1) here, in_range ps ints ns a.2 (omega arith) (λ k below. h (suc k) (omega arith)))

-- ---- cells

not_above : (m n : ℕ) → n ≤ m → nat_lt m n ≡ false
not_above m n h = grind (arith, nat_tests)

at_most : (m n : ℕ) → nat_lt m n ≡ false → n ≤ m
at_most m n h = grind arith

no_other : (m n : ℕ) → n ≡ m → not (m == n) ≡ false
no_other m n h = grind (arith, nat_tests)

same_not : (m n : ℕ) → not (m == n) ≡ false → n ≡ m
same_not m n h = grind arith

-- each array has its cells
pub record AreCounted (ns : List ℤ) (arrays : List ArrayInfo) (cells : List (List ℕ)) : Type 0 where
  pub rows : length cells ≡ length arrays
  pub few : (k : ℕ) → k < length arrays → nat_lt 4194304 (count_in ns (slice_get arrays k)) ≡ false
  pub counted : (k : ℕ) → k < length arrays → not (count_in ns (slice_get arrays k) == length_in (slice_get cells k)) ≡ false

one_row : (ns : List ℤ) (a : ArrayInfo) (arrays : List ArrayInfo) (c : List ℕ) (cells : List (List ℕ)) → cells_of_array ns a ≤ 4194304 → length c ≡ cells_of_array ns a → AreCounted ns arrays cells → AreCounted ns (a ∷ arrays) (c ∷ cells)
one_row ns a arrays c cells small same rest = record { rows = ap suc rest.rows; few = few; counted = counted } where
  few : (k : ℕ) → k < length (a ∷ arrays) → nat_lt 4194304 (count_in ns (slice_get (a ∷ arrays) k)) ≡ false
  few zero below = not_above 4194304 (cells_of_array ns a) small
  few (suc k) below = rest.few k (omega arith)

  counted : (k : ℕ) → k < length (a ∷ arrays) → not (count_in ns (slice_get (a ∷ arrays) k) == length_in (slice_get (c ∷ cells) k)) ≡ false
  counted zero below = no_other (cells_of_array ns a) (length c) same
  counted (suc k) below = rest.counted k (omega arith)

other_rows : (ns : List ℤ) (a : ArrayInfo) (arrays : List ArrayInfo) (c : List ℕ) (cells : List (List ℕ)) → AreCounted ns (a ∷ arrays) (c ∷ cells) → AreCounted ns arrays cells
other_rows ns a arrays c cells h = record { rows = let all = h.rows in omega arith; few = λ k below. h.few (suc k) (omega arith); counted = λ k below. h.counted (suc k) (omega arith) }

module _ (ps : List PlainParam) (n : ℕ) (ns : List ℤ) (count : length ns ≡ n) where
  same_extents : (es : PlainExprs) (sums : List Affine) → AreExtents ps n es sums → map (sum_value ns) sums ≡ extents_of (vars_of ps ns) es
  same_extents no_exprs [] h = refl
  same_extents no_exprs (sum ∷ sums) h = absurd h
  same_extents (more_exprs e es) [] h = absurd h
  same_extents (more_exprs e es) (sum ∷ sums) h =
      ap (λ z. z ∷ map (sum_value ns) sums) (h.0.value ns count) ∙ ap (λ zs. exact e (vars_of ps ns) ∷ zs) (same_extents es sums h.1)

  are_counted : (rest : List PlainParam) (arrays : List ArrayInfo) (cells : List (List ℕ)) → AreArrays ps n rest arrays → HaveCells (arrays_of (vars_of ps ns) rest) cells → AreCounted ns arrays cells × AllByRecursion AreWords cells
  are_counted [] [] [] a h = (record { rows = refl; few = λ k below. absurd (omega arith); counted = λ k below. absurd (omega arith) }, tt)
  are_counted [] [] (c ∷ cells) a h = absurd h
  are_counted [] (b ∷ arrays) cells a h = absurd a
  are_counted (int_param x ∷ rest) arrays cells a h = are_counted rest arrays cells a h
  are_counted (array_param x constant extents ∷ rest) [] cells a h = absurd a
  are_counted (array_param x constant extents ∷ rest) (b ∷ arrays) [] a h = absurd h
  are_counted (array_param x constant extents ∷ rest) (b ∷ arrays) (c ∷ cells) a h =
      let more = are_counted rest arrays cells a.3 h.1 in
      let same : cell_count (extents_of (vars_of ps ns) extents) ≡ cells_of_array ns b = sym (ap cell_count (same_extents extents b.extents a.2)) in
      (one_row ns b arrays c cells (subst (λ (m : ℕ). m ≤ 4194304) same h.0.few) (h.0.count ∙ same) more.0, (h.0.small, more.1))

  have_cells : (rest : List PlainParam) (arrays : List ArrayInfo) (cells : List (List ℕ)) → AreArrays ps n rest arrays → AreCounted ns arrays cells → AllByRecursion AreWords cells → HaveCells (arrays_of (vars_of ps ns) rest) cells
  have_cells [] [] [] a h words = tt
  have_cells [] [] (c ∷ cells) a h words = absurd (let all = h.rows in omega arith)
  have_cells [] (b ∷ arrays) cells a h words = absurd a
  have_cells (int_param x ∷ rest) arrays cells a h words = have_cells rest arrays cells a h words
  have_cells (array_param x constant extents ∷ rest) [] cells a h words = absurd a
  have_cells (array_param x constant extents ∷ rest) (b ∷ arrays) [] a h words = absurd (let all = h.rows in omega arith)
  have_cells (array_param x constant extents ∷ rest) (b ∷ arrays) (c ∷ cells) a h words =
      let same : cells_of_array ns b ≡ cell_count (extents_of (vars_of ps ns) extents) = ap cell_count (same_extents extents b.extents a.2) in (
        record {
          count = same_not (cells_of_array ns b) (length c) (h.counted 0 (omega arith)) ∙ same;
          few = subst (λ (m : ℕ). m ≤ 4194304) same (at_most 4194304 (cells_of_array ns b) (h.few 0 (omega arith)));
          small = words.0;
        },
        have_cells rest arrays cells a.3 (other_rows ns b arrays c cells h) words.1,
      )

-- ---- both

pub fits_frame : (u : PlainUnit) (f : Frame) (i : PlainInputs) → IsFrameOf u f → Fit u i → FitsFrame f i
fits_frame u f i is fit =
    let ranges = inside u.ranges u.params f.ints i.ints is.ints fit.ints in
    let cells = are_counted u.params (length f.ints) i.ints ranges.0 u.params f.arrays i.cells is.arrays fit.cells in
    record {
      rows = record { values = ranges.0; cells = cells.0.rows };
      words = cells.1;
      fits = record { within = ranges.1; few = cells.0.few; counted = cells.0.counted };
    }

pub fits_unit : (u : PlainUnit) (f : Frame) (i : PlainInputs) → IsFrameOf u f → FitsFrame f i → Fit u i
fits_unit u f i is h =
    let counted : AreCounted i.ints f.arrays i.cells = record { rows = h.rows.cells; few = h.fits.few; counted = h.fits.counted } in
    record {
      ints = in_range u.ranges u.params f.ints i.ints is.ints h.rows.values h.fits.within;
      cells = have_cells u.params (length f.ints) i.ints h.rows.values u.params f.arrays i.cells is.arrays counted h.words;
    }
