-- The arrays of a unit have the cells that its frame says.
use Rattle.std.proofs.Common.{◌≡◌, ◌↔◌, ℕ, zero, suc, ◌<◌, List, [], ◌∷◌, length, map, slice_get, ℤ, refl, sym, ap, ◌∙◌, arith}
use Rattle.c_tree.specs.Arrays.{cell_count, extents_in, arrays_of, vars_of, extents_of}
use Rattle.c_tree.specs.Flips.{fault_in, IsFaultFor}
use Rattle.c_tree.specs.Inputs.{PlainInputs}
use Rattle.c_tree.specs.Plain.{PlainExprs, no_exprs, more_exprs, PlainParam, int_param, array_param, PlainUnit}
use Rattle.c_tree.specs.declared.affine.Affine.{Affine}
use Rattle.c_tree.specs.declared.frame.ArrayInfo.{ArrayInfo}
use Rattle.c_tree.specs.declared.frame.Frame.{Frame}
use Rattle.c_tree.specs.declared.run.Flip.{Flip}
use Rattle.data_file.specs.Checks.{sum_value, count_in}
use Rattle.data_file.specs.Frames.{AreExtents, AreArrays, IsFrameOf, carried, FitsFrame}
use Rattle.fault_plan.specs.Answers.{FitsInputs}

module _ (ps : List PlainParam) (n : ℕ) (ns : List ℤ) (count : length ns ≡ n) where
  same_extents : (es : PlainExprs) (sums : List Affine) → AreExtents ps n es sums → extents_of (vars_of ps ns) es ≡ map (sum_value ns) sums
  same_extents no_exprs [] h = refl
  same_extents no_exprs (sum ∷ sums) h = absurd h
  same_extents (more_exprs e es) [] h = absurd h
  same_extents (more_exprs e es) (sum ∷ sums) h =
      ap (λ z. z ∷ extents_of (vars_of ps ns) es) (sym (h.0.value ns count)) ∙ ap (λ zs. sum_value ns sum ∷ zs) (same_extents es sums h.1)

  as_many : (rest : List PlainParam) (arrays : List ArrayInfo) → AreArrays ps n rest arrays → length (arrays_of (vars_of ps ns) rest) ≡ length arrays
  as_many [] [] h = refl
  as_many [] (a ∷ arrays) h = absurd h
  as_many (int_param x ∷ rest) arrays h = as_many rest arrays h
  as_many (array_param x constant extents ∷ rest) [] h = absurd h
  as_many (array_param x constant extents ∷ rest) (a ∷ arrays) h = ap suc (as_many rest arrays h.3)

  same_cells : (rest : List PlainParam) (arrays : List ArrayInfo) → AreArrays ps n rest arrays → (k : ℕ) → k < length arrays
      → cell_count (extents_in (slice_get (arrays_of (vars_of ps ns) rest) k)) ≡ count_in ns (slice_get arrays k)
  same_cells [] [] h k below = absurd (omega arith)
  same_cells [] (a ∷ arrays) h k below = absurd h
  same_cells (int_param x ∷ rest) arrays h k below = same_cells rest arrays h k below
  same_cells (array_param x constant extents ∷ rest) [] h k below = absurd h
  same_cells (array_param x constant extents ∷ rest) (a ∷ arrays) h zero below = ap cell_count (same_extents extents a.extents h.2)
  same_cells (array_param x constant extents ∷ rest) (a ∷ arrays) h (suc k) below = same_cells rest arrays h.3 k (omega arith)

pub flips_fit : (u : PlainUnit) (f : Frame) (i : PlainInputs) (flip : Flip) → IsFrameOf u f → FitsFrame f i → FitsInputs f (carried i) flip ↔ IsFaultFor u i (fault_in flip)
flips_fit u f i flip is fit = (there, back) where
  there : FitsInputs f (carried i) flip → IsFaultFor u i (fault_in flip)
  there h =
      let below = h.array in
      let within = h.cell in
      let low = h.bit in
      let many = as_many u.params (length f.ints) i.ints fit.rows.values u.params f.arrays is.arrays in
      let cells = same_cells u.params (length f.ints) i.ints fit.rows.values u.params f.arrays is.arrays flip.array below in
      record { array = omega (arith, many, below); cell = omega (arith, cells, within); bit = omega arith }

  back : IsFaultFor u i (fault_in flip) → FitsInputs f (carried i) flip
  back h =
      let inside = h.array in
      let within = h.cell in
      let low = h.bit in
      let many = as_many u.params (length f.ints) i.ints fit.rows.values u.params f.arrays is.arrays in
      let below : flip.array < length f.arrays = omega (arith, many, inside) in
      let cells = same_cells u.params (length f.ints) i.ints fit.rows.values u.params f.arrays is.arrays flip.array below in
      record { array = below; cell = omega (arith, cells, within); bit = omega arith }
