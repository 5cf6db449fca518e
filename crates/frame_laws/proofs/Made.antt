-- A good head has a frame: its names with their ends, and the sums that its extents stand for.
use Rattle.std.proofs.Common.{◌≡◌, true, List, [], ◌∷◌, map, Option, Some, None, refl, ap}
use Rattle.std.proofs.lemmas.Bool.{and_parts, both_ways}
use Rattle.c_tree.specs.Names.{words, ints_in}
use Rattle.c_tree.specs.Plain.{Word, PlainExpr, PlainExprs, no_exprs, more_exprs, PlainParam, int_param, array_param, PlainUnit}
use Rattle.c_tree.specs.declared.affine.Affine.{Affine}
use Rattle.c_tree.specs.declared.frame.ArrayInfo.{ArrayInfo}
use Rattle.c_tree.specs.declared.name.Name.{Name}
use Rattle.affine_sets.specs.Collected.{collected}
use Rattle.affine_sets.specs.Expressions.{StandsFor, are_different, is_sum}
use Rattle.affine_sets.specs.declared.expressions.Reading.{Reading}
use Rattle.affine_sets.proofs.ReadingLaws.{Found, found}
use Rattle.frames.specs.Built.{AreSums, HaveSums, are_sums, have_sums, with_ends}
use Rattle.frames.specs.Heads.{HasGoodHead}
use Rattle.frames.proofs.FrameLaws.{names_differ, extents_are_sums, is_frame_of, is_frame}
use Rattle.frame_laws.specs.Laws.{HasFrame}

module _ (names : List Word) (different : are_different names ≡ true) where
  sum_in : (e : PlainExpr) (o : Option Reading) → Found names e o → is_sum names e ≡ true → (a : Affine) × StandsFor names e a
  sum_in e None h is = absurd (both_ways (is_sum names e) h is)
  sum_in e (Some r) h is = (r.sum, h.stands)

  sums_of : (es : PlainExprs) → are_sums names es ≡ true → (sums : List Affine) × AreSums names es sums
  sums_of no_exprs h = ([], tt)
  sums_of (more_exprs e es) h =
      let both = and_parts (is_sum names e) (are_sums names es) h in
      let first = sum_in e (collected names e) (found names different e) both.0 in
      let rest = sums_of es both.1 in
      (first.0 ∷ rest.0, (first.1, rest.1))

  arrays_of : (ps : List PlainParam) → have_sums names ps ≡ true → (arrays : List ArrayInfo) × HaveSums names ps arrays
  arrays_of [] h = ([], tt)
  arrays_of (int_param x ∷ ps) h = arrays_of ps h
  arrays_of (array_param x constant extents ∷ ps) h =
      let both = and_parts (are_sums names extents) (have_sums names ps) h in
      let sums = sums_of extents both.0 in
      let rest = arrays_of ps both.1 in
      (record { name = record { bytes = x }; constant = constant; extents = sums.0 } ∷ rest.0, (refl, refl, sums.1, rest.1))

abbrev named : Word → Name
named w = record { bytes = w }

words_named : (ws : List Word) → words (map named ws) ≡ ws
words_named [] = refl
words_named (w ∷ ws) = ap (λ vs. w ∷ vs) (words_named ws)

pub has_frame : (u : PlainUnit) → HasGoodHead u → HasFrame u
has_frame u good =
    let names = map named (ints_in u.params) in
    let same : words names ≡ ints_in u.params = words_named (ints_in u.params) in
    let arrays = arrays_of (ints_in u.params) (names_differ u good) u.params (extents_are_sums u good) in
    record {
      frame = record { ints = map (with_ends u.ranges) names; arrays = arrays.0 };
      of = is_frame_of u good names arrays.0 same arrays.1;
      is = is_frame u good names arrays.0 same arrays.1;
    }
