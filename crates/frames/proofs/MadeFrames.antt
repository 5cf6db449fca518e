-- The frame that the code makes of the parts that it finds.
use Rattle.std.proofs.Common.{◌≡◌, true, List, map, ℤ, sym, ap, ◌∙◌, subst}
use Rattle.c_tree.specs.Names.{words, ints_in}
use Rattle.c_tree.specs.Plain.{Word}
use Rattle.c_tree.specs.Trees.{unit as tree, param}
use Rattle.c_tree.specs.declared.frame.ArrayInfo.{ArrayInfo}
use Rattle.c_tree.specs.declared.name.Name.{Name}
use Rattle.c_tree.specs.declared.unit.Param.{Param}
use Rattle.c_tree.specs.declared.unit.Unit.{Unit as TheUnit}
use Rattle.affine_sets.specs.Expressions.{are_different}
use Rattle.data_file.specs.Conditions.{IsFrame}
use Rattle.data_file.specs.Frames.{IsFrameOf}
use Rattle.frames.specs.Built.{HaveSums, have_sums, line, with_ends}
use Rattle.frames.specs.Heads.{HasGoodHead}
use Rattle.frames.proofs.FrameLaws.{names_differ, extents_are_sums, is_frame_of, is_frame}

module _ (w : TheUnit) (good : HasGoodHead (tree w)) (names : List Name) (ps : List Param) (own : ps ≡ w.params) (found : words names ≡ ints_in (map param ps)) where
  pub same_names : words names ≡ ints_in (tree w).params
  same_names = found ∙ ap (λ qs. ints_in (map param qs)) own

  pub different_names : are_different (words names) ≡ true
  different_names = ap are_different same_names ∙ names_differ (tree w) good

  pub good_extents : (qs : List Param) → qs ≡ w.params → have_sums (words names) (map param qs) ≡ true
  good_extents qs e = ap (λ rs. have_sums (words names) (map param rs)) e ∙ ap (λ ws. have_sums ws (map param w.params)) same_names ∙ extents_are_sums (tree w) good

  pub made_sums : (qs : List Param) (arrays : List ArrayInfo) → qs ≡ w.params → HaveSums (words names) (map param qs) arrays → HaveSums (ints_in (tree w).params) (tree w).params arrays
  made_sums qs arrays e s =
      let P : List Param → Type 0 = λ rs. HaveSums (words names) (map param rs) arrays in
      let Q : List Word → Type 0 = λ ws. HaveSums ws (map param w.params) arrays in
      subst Q same_names (subst P e s)

  module _ (rs ints : List (Name × ℤ × ℤ)) (xs : List Name) (all : rs ≡ w.ranges) (each : xs ≡ names) (made : ints ≡ map (with_ends (map line rs)) xs) where
    same_ints : map (with_ends (tree w).ranges) names ≡ ints
    same_ints = sym (made ∙ ap (λ ys. map (with_ends (map line rs)) ys) each ∙ ap (λ ls. map (with_ends (map line ls)) names) all)

    pub made_frame_of : (arrays : List ArrayInfo) → HaveSums (ints_in (tree w).params) (tree w).params arrays → IsFrameOf (tree w) (record { ints = ints; arrays = arrays })
    made_frame_of arrays s =
        let P : List (Name × ℤ × ℤ) → Type 0 = λ ns. IsFrameOf (tree w) (record { ints = ns; arrays = arrays }) in
        subst P same_ints (is_frame_of (tree w) good names arrays same_names s)

    pub made_frame : (arrays : List ArrayInfo) → HaveSums (ints_in (tree w).params) (tree w).params arrays → IsFrame (record { ints = ints; arrays = arrays })
    made_frame arrays s =
        let P : List (Name × ℤ × ℤ) → Type 0 = λ ns. IsFrame (record { ints = ns; arrays = arrays }) in
        subst P same_ints (is_frame (tree w) good names arrays same_names s)
