-- What is made of a good head is the frame of the unit.
use Rattle.std.proofs.Common.{◌≡◌, ℕ, true, List, [], ◌∷◌, ◌++◌, map, length, slice_get, ℤ, refl, sym, ap, ◌∙◌}
use Rattle.std.proofs.lemmas.Bool.{and_parts}
use Rattle.std.proofs.lemmas.List.{length-map}
use Rattle.c_tree.specs.Names.{words, ints_in, arrays_in}
use Rattle.c_tree.specs.Plain.{Word, PlainExprs, no_exprs, more_exprs, PlainParam, int_param, array_param, PlainUnit}
use Rattle.c_tree.specs.Trees.{word}
use Rattle.c_tree.specs.declared.affine.Affine.{Affine}
use Rattle.c_tree.specs.declared.frame.ArrayInfo.{ArrayInfo}
use Rattle.c_tree.specs.declared.frame.Frame.{Frame}
use Rattle.c_tree.specs.declared.name.Name.{Name}
use Rattle.acceptance.specs.Affine.{is_affine, holds_throughout}
use Rattle.affine_sets.specs.Expressions.{are_different, is_small_at, is_sum, over}
use Rattle.data_file.specs.Conditions.{HasOwnNames, IsFrame, names_in}
use Rattle.data_file.specs.Frames.{AreArrays, AreExtents, IsFrameOf}
use Rattle.frames.specs.Built.{are_sums, have_sums, AreSums, HaveSums, with_ends}
use Rattle.frames.specs.Heads.{HasGoodHead}
use Rattle.frames.proofs.SumValues.{is_extent}
use Rattle.frames.proofs.OwnNames.{all_differ, ints_differ, one_place}
use Rattle.frames.proofs.RangeLaws.{ints_of_unit, small_ranges}
use Rattle.frames.proofs.ExtentLaws.{unit_has_sums, small_sums}

-- ---- extents

module _ (ps : List PlainParam) (n : ℕ) (count : n ≡ length (ints_in ps)) (different : are_different (ints_in ps) ≡ true) where
  abbrev names : List Word
  names = ints_in ps

  are_extents : (es : PlainExprs) (sums : List Affine) → are_sums names es ≡ true → AreSums names es sums → AreExtents ps n es sums
  are_extents no_exprs [] h s = tt
  are_extents no_exprs (sum ∷ sums) h s = absurd s
  are_extents (more_exprs e es) [] h s = absurd s
  are_extents (more_exprs e es) (sum ∷ sums) h s =
      let k = and_parts (is_sum names e) (are_sums names es) h in
      let l = and_parts (is_affine (over names) e) (holds_throughout (is_small_at names) e) k.0 in
      (is_extent ps n e sum count different l.0 s.0, are_extents es sums k.1 s.1)

  are_arrays : (rest : List PlainParam) (arrays : List ArrayInfo) → have_sums names rest ≡ true → HaveSums names rest arrays → AreArrays ps n rest arrays
  are_arrays [] [] h s = tt
  are_arrays [] (a ∷ arrays) h s = absurd s
  are_arrays (int_param x ∷ rest) arrays h s = are_arrays rest arrays h s
  are_arrays (array_param x constant extents ∷ rest) [] h s = absurd s
  are_arrays (array_param x constant extents ∷ rest) (a ∷ arrays) h s =
      let k = and_parts (are_sums names extents) (have_sums names rest) h in
      (s.0, s.1, are_extents extents a.extents k.0 s.2, are_arrays rest arrays k.1 s.3)

-- ---- names

range_names : (rs : List (Word × ℤ × ℤ)) (xs : List Name) → map (λ (p : Name × ℤ × ℤ). p.0.bytes) (map (with_ends rs) xs) ≡ words xs
range_names rs [] = refl
range_names rs (x ∷ xs) = ap (λ ws. word x ∷ ws) (range_names rs xs)

array_names : (ns : List Word) (ps : List PlainParam) (arrays : List ArrayInfo) → HaveSums ns ps arrays → map (λ (a : ArrayInfo). a.name.bytes) arrays ≡ arrays_in ps
array_names ns [] [] s = refl
array_names ns [] (a ∷ arrays) s = absurd s
array_names ns (int_param x ∷ ps) arrays s = array_names ns ps arrays s
array_names ns (array_param x constant extents ∷ ps) [] s = absurd s
array_names ns (array_param x constant extents ∷ ps) (a ∷ arrays) s =
    ap (λ w. w ∷ map (λ (b : ArrayInfo). b.name.bytes) arrays) s.0 ∙ ap (λ ws. x ∷ ws) (array_names ns ps arrays s.3)

-- ---- the frame

module _ (u : PlainUnit) (good : HasGoodHead u) where
  pub names_differ : are_different (ints_in u.params) ≡ true
  names_differ = ints_differ u good.names

  pub extents_are_sums : have_sums (ints_in u.params) u.params ≡ true
  extents_are_sums = unit_has_sums u good.affine good.small

module _ (u : PlainUnit) (good : HasGoodHead u) (xs : List Name) (arrays : List ArrayInfo) (same : words xs ≡ ints_in u.params) (sums : HaveSums (ints_in u.params) u.params arrays) where
  abbrev frame : Frame
  frame = record { ints = map (with_ends u.ranges) xs; arrays = arrays }

  count : length frame.ints ≡ length (ints_in u.params)
  count = length-map xs (with_ends u.ranges) ∙ sym (length-map xs word) ∙ ap length same

  pub is_frame_of : IsFrameOf u (record { ints = map (with_ends u.ranges) xs; arrays = arrays })
  is_frame_of = record {
    ints = ints_of_unit u good.ranges xs same;
    arrays = are_arrays u.params (length frame.ints) count (names_differ u good) u.params arrays (extents_are_sums u good) sums;
  }

  all_names : names_in frame ≡ ints_in u.params ++ arrays_in u.params
  all_names =
      ap (λ ws. ws ++ map (λ (a : ArrayInfo). a.name.bytes) arrays) (range_names u.ranges xs ∙ same) ∙ ap (λ ws. ints_in u.params ++ ws) (array_names (ints_in u.params) u.params arrays sums)

  own_names : HasOwnNames frame
  own_names j k x f g =
      let e = all_names in
      one_place (ints_in u.params ++ arrays_in u.params) (all_differ u good.names) j k x (ap (λ ws. slice_get ws j) (sym e) ∙ f) (ap (λ ws. slice_get ws k) (sym e) ∙ g)

  pub is_frame : IsFrame (record { ints = map (with_ends u.ranges) xs; arrays = arrays })
  is_frame = record {
    names = own_names;
    ranges = small_ranges u good.ranges xs;
    extents = small_sums u arrays good.small sums;
  }
