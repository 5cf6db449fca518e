-- All frames of a unit say the same.
use Rattle.std.proofs.Common.{◌≡◌, ℕ, List, [], ◌∷◌, length, map, ℤ, refl, sym, ap, ◌∙◌, subst}
use Rattle.std.proofs.lemmas.Option.{same_Some}
use Rattle.c_tree.specs.Plain.{Word, PlainExprs, no_exprs, more_exprs, PlainParam, int_param, array_param, PlainUnit}
use Rattle.c_tree.specs.declared.affine.Affine.{Affine}
use Rattle.c_tree.specs.declared.frame.ArrayInfo.{ArrayInfo}
use Rattle.c_tree.specs.declared.frame.Frame.{Frame}
use Rattle.c_tree.specs.declared.name.Name.{Name}
use Rattle.data_file.specs.Checks.{sum_value}
use Rattle.data_file.specs.Frames.{AreInts, AreExtents, AreArrays, IsFrameOf}
use Rattle.frame_laws.specs.Alike.{AreLike, SayTheSame}

abbrev named : Word → Name
named w = record { bytes = w }

same_name : (x y : Name) → x.bytes ≡ y.bytes → x ≡ y
same_name x y same = ap (λ (w : Word). named w) same

same_range : (p q : Name × ℤ × ℤ) → p.0 ≡ q.0 → ◌≡◌ {A = ℤ × ℤ} (p.1, p.2) (q.1, q.2) → p ≡ q
same_range (x, low, high) (y, least, most) names ends = ap (λ (z : Name). (z, low, high)) names ∙ ap (λ (e : ℤ × ℤ). (y, e.0, e.1)) ends

same_ints : (rs : List (Word × ℤ × ℤ)) (ps : List PlainParam) (xs ys : List (Name × ℤ × ℤ)) → AreInts rs ps xs → AreInts rs ps ys → xs ≡ ys
same_ints rs [] [] [] h k = refl
same_ints rs [] [] (y ∷ ys) h k = absurd k
same_ints rs [] (x ∷ xs) ys h k = absurd h
same_ints rs (array_param z constant extents ∷ ps) xs ys h k = same_ints rs ps xs ys h k
same_ints rs (int_param z ∷ ps) [] ys h k = absurd h
same_ints rs (int_param z ∷ ps) (x ∷ xs) [] h k = absurd k
same_ints rs (int_param z ∷ ps) (x ∷ xs) (y ∷ ys) h k =
    let first : x ≡ y = same_range x y (same_name x.0 y.0 (h.0 ∙ sym k.0)) (same_Some _ _ (sym h.1 ∙ k.1)) in
    ap (λ (p : Name × ℤ × ℤ). p ∷ xs) first ∙ ap (λ ps. y ∷ ps) (same_ints rs ps xs ys h.2 k.2)

same_values : (ps : List PlainParam) (n : ℕ) (es : PlainExprs) (xs ys : List Affine) → AreExtents ps n es xs → AreExtents ps n es ys → (ns : List ℤ) → length ns ≡ n → map (sum_value ns) xs ≡ map (sum_value ns) ys
same_values ps n no_exprs [] [] h k ns count = refl
same_values ps n no_exprs [] (y ∷ ys) h k ns count = absurd k
same_values ps n no_exprs (x ∷ xs) ys h k ns count = absurd h
same_values ps n (more_exprs e es) [] ys h k ns count = absurd h
same_values ps n (more_exprs e es) (x ∷ xs) [] h k ns count = absurd k
same_values ps n (more_exprs e es) (x ∷ xs) (y ∷ ys) h k ns count =
    ap (λ (v : ℤ). v ∷ map (sum_value ns) xs) (h.0.value ns count ∙ sym (k.0.value ns count)) ∙ ap (λ vs. sum_value ns y ∷ vs) (same_values ps n es xs ys h.1 k.1 ns count)

are_like : (ps : List PlainParam) (n : ℕ) (rest : List PlainParam) (xs ys : List ArrayInfo) → AreArrays ps n rest xs → AreArrays ps n rest ys → AreLike n xs ys
are_like ps n [] [] [] h k = tt
are_like ps n [] [] (y ∷ ys) h k = absurd k
are_like ps n [] (x ∷ xs) ys h k = absurd h
are_like ps n (int_param z ∷ rest) xs ys h k = are_like ps n rest xs ys h k
are_like ps n (array_param z constant extents ∷ rest) [] ys h k = absurd h
are_like ps n (array_param z constant extents ∷ rest) (x ∷ xs) [] h k = absurd k
are_like ps n (array_param z constant extents ∷ rest) (x ∷ xs) (y ∷ ys) h k = (
  record { name = same_name x.name y.name (h.0 ∙ sym k.0); constant = h.1 ∙ sym k.1; extents = same_values ps n extents x.extents y.extents h.2 k.2 },
  are_like ps n rest xs ys h.3 k.3,
)

pub of_one_unit : (u : PlainUnit) (f g : Frame) → IsFrameOf u f → IsFrameOf u g → SayTheSame f g
of_one_unit u f g one two =
    let ints = same_ints u.ranges u.params f.ints g.ints one.ints two.ints in
    record {
      ints = ints;
      arrays = are_like u.params (length f.ints) u.params f.arrays g.arrays one.arrays (subst (λ (n : ℕ). AreArrays u.params n u.params g.arrays) (sym (ap length ints)) two.arrays);
    }
